-- What the limits that a kernel is given say of its calls: all but how long its history gets.
use Rattle.ids.specs.declared.limits.TheConstants.{DEFAULT_DESCRIPTORS, DEFAULT_LARGEST_FILE}
use Rattle.ids.specs.declared.limits.TheConstants.{DEFAULT_PATH_LIMIT}
use Rattle.ids.specs.declared.limits.Bounds.{Bounds}
use Rattle.ids.specs.declared.limits.Limits.{Limits}

abbrev pub bounds_of : Limits → Bounds
bounds_of limits = record {
  file_bytes = limits.file_bytes;
  descriptors = limits.descriptors;
  path_bytes = limits.path_bytes;
}

-- those of a kernel for which no numbers are given
abbrev pub given_by_default : Bounds
given_by_default = record {
  file_bytes = DEFAULT_LARGEST_FILE;
  descriptors = DEFAULT_DESCRIPTORS;
  path_bytes = DEFAULT_PATH_LIMIT;
}
