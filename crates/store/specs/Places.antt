-- How the places of a store change: an object to come is shown, an object is removed, or what it holds
-- changes.
use Rattle.std.specs.Prelude.{ℕ, ◌+◌, ◌-◌, ◌++◌, Bool, true, false, not, nat_lt, Option, Some, None}
use Rattle.std.specs.Prelude.{◌≡◌, ◌≤◌, if◌then◌else◌, List, [], drop, length}
use Rattle.ids.specs.declared.limits.TheConstants.{PIPE_CAPACITY}
use Rattle.std.specs.Ordering.{nat_cmp}
use Rattle.model.specs.FiniteMap.{FinMap, get, insert, remove}
use Rattle.model.specs.State.{Name}
use Rattle.model.specs.Changes.{at_offset}
use Rattle.objects.specs.Pieces.{FileContent}
use Rattle.dirlist.specs.Listing.{Listing}
use Rattle.store.specs.Numbers.{Numbers, held}
use Rattle.store.specs.declared.Place.{Place}
use Rattle.store.specs.declared.Stage.{Stage}
use Rattle.store.specs.declared.Stage.TheVariants.{Coming, Held, Removed}
use Rattle.store.specs.declared.Object.{Object}
use Rattle.store.specs.declared.Object.TheVariants.{Directory, File, Pipe, Fixed, Description, Nothing}
use Rattle.store.specs.declared.OpenFile.{OpenFile}
use Rattle.store.specs.declared.Opened.{Opened}
use Rattle.store.specs.declared.OpenPipe.{OpenPipe}

abbrev pub altered_by : (Place → Place) → Option Place → FinMap nat_cmp Place → ℕ
    → FinMap nat_cmp Place
altered_by f (Some place) places n = insert places n (f place)
altered_by f None places n = places

-- the store, with the place of this number changed by f, where the number is in use
abbrev pub altered : (Place → Place) → Numbers → ℕ → Numbers
altered f s n = record s { places = altered_by f (get s.places n) s.places n }

-- an object to come is shown from now on
abbrev pub shown_stage : Stage → Stage
shown_stage Coming = Held
shown_stage Held = Held
shown_stage Removed = Removed

abbrev pub installed : Place → Place
installed place = record place { stage = shown_stage place.stage }

-- an object is shown no more
abbrev pub hidden : Place → Place
hidden place = record place { stage = Removed }

abbrev pub listing_of : Object → Option Listing
listing_of (Directory listing) = Some listing
listing_of _ = None

abbrev pub file_of : Object → Option OpenFile
file_of (File file) = Some file
file_of _ = None

abbrev pub pipe_of : Object → Option OpenPipe
pipe_of (Pipe pipe) = Some pipe
pipe_of _ = None

abbrev pub opened_of : Object → Option Opened
opened_of (Description opened) = Some opened
opened_of _ = None

abbrev pub listing_in : Option Place → Option Listing
listing_in (Some place) = listing_of place.object
listing_in None = None

-- the listing of the directory of a number, however far it is
abbrev pub listing_at : Numbers → ℕ → Option Listing
listing_at s n = listing_in (get s.places n)

abbrev pub changed_object : (Listing → Listing) → Object → Object
changed_object f (Directory listing) = Directory (f listing)
changed_object f (File file) = File file
changed_object f (Pipe pipe) = Pipe pipe
changed_object f (Fixed fixed) = Fixed fixed
changed_object f (Description opened) = Description opened
changed_object f Nothing = Nothing

-- a change of a directory's listing, which leaves how far it is
abbrev pub with_listing : (Listing → Listing) → Place → Place
with_listing f place = record place { object = changed_object f place.object }

-- the same of a file, of a description, and of a pipe
abbrev pub changed_file : (OpenFile → OpenFile) → Object → Object
changed_file f (File file) = File (f file)
changed_file f (Directory listing) = Directory listing
changed_file f (Pipe pipe) = Pipe pipe
changed_file f (Fixed fixed) = Fixed fixed
changed_file f (Description opened) = Description opened
changed_file f Nothing = Nothing

abbrev pub changed_opened : (Opened → Opened) → Object → Object
changed_opened f (Description opened) = Description (f opened)
changed_opened f (Directory listing) = Directory listing
changed_opened f (File file) = File file
changed_opened f (Pipe pipe) = Pipe pipe
changed_opened f (Fixed fixed) = Fixed fixed
changed_opened f Nothing = Nothing

abbrev pub changed_pipe : (OpenPipe → OpenPipe) → Object → Object
changed_pipe f (Pipe pipe) = Pipe (f pipe)
changed_pipe f (Fixed fixed) = Fixed fixed
changed_pipe f (Directory listing) = Directory listing
changed_pipe f (File file) = File file
changed_pipe f (Description opened) = Description opened
changed_pipe f Nothing = Nothing

abbrev pub with_pipe : (OpenPipe → OpenPipe) → Place → Place
with_pipe f place = record place { object = changed_pipe f place.object }

abbrev pub with_file : (OpenFile → OpenFile) → Place → Place
with_file f place = record place { object = changed_file f place.object }

abbrev pub with_opened : (Opened → Opened) → Place → Place
with_opened f place = record place { object = changed_opened f place.object }

-- a file with other bytes, and with one opening more or less
abbrev pub with_bytes : FileContent → OpenFile → OpenFile
with_bytes content file = record file { bytes = content }

-- what is kept of a file's bytes; none where there is no file
abbrev pub content_of : Option OpenFile → FileContent
content_of (Some file) = file.bytes
content_of None = record { bytes = []; rooms = [] }

-- a content with these bytes, whatever room that has, of which this holds
pub record Refilled (bytes : List ℕ) (holds : FileContent → Type 0) : Type 0 where
  pub content : FileContent
  pub bytes_are : content.bytes ≡ bytes
  pub rest : holds content

abbrev pub more_openings : OpenFile → OpenFile
more_openings file = record file { openings = file.openings + 1 }

abbrev pub less_openings : OpenFile → OpenFile
less_openings file = record file { openings = file.openings - 1 }

-- a pipe of which so many bytes are taken from the front, and these are appended
abbrev pub passed : ℕ → List ℕ → OpenPipe → OpenPipe
passed taken appended pipe = record pipe { bytes = drop taken pipe.bytes ++ appended }

-- it has so many bytes, and the others fit when these are gone
abbrev pub IsRoomy : ℕ → List ℕ → Option OpenPipe → Type 0
IsRoomy taken appended (Some pipe) =
    (taken ≤ length pipe.bytes)
    × (length pipe.bytes - taken + length appended ≤ PIPE_CAPACITY)
IsRoomy taken appended None = ⊥

-- a description with another offset, and with one holder more or less
abbrev pub moved_to : ℕ → Opened → Opened
moved_to offset opened = record opened { description = at_offset offset opened.description }

abbrev pub more_holders : Opened → Opened
more_holders opened = record opened { holders = opened.holders + 1 }

abbrev pub less_holders : Opened → Opened
less_holders opened = record opened { holders = opened.holders - 1 }

-- the file of a number, its pipe, and its description, however far it is
abbrev pub file_in : Option Place → Option OpenFile
file_in (Some place) = file_of place.object
file_in None = None

abbrev pub pipe_in : Option Place → Option OpenPipe
pipe_in (Some place) = pipe_of place.object
pipe_in None = None

abbrev pub opened_in : Option Place → Option Opened
opened_in (Some place) = opened_of place.object
opened_in None = None

-- how many descriptions are open on a file, and how many descriptors name a description
abbrev pub openings_of : Option OpenFile → ℕ
openings_of (Some file) = file.openings
openings_of None = 0

abbrev pub openings_at : Numbers → ℕ → ℕ
openings_at s n = openings_of (file_in (get s.places n))

abbrev pub holders_of : Option Opened → ℕ
holders_of (Some opened) = opened.holders
holders_of None = 0

abbrev pub holders_at : Numbers → ℕ → ℕ
holders_at s n = holders_of (opened_in (get s.places n))

-- one promise more, and one less where there is one
abbrev pub more_room : Listing → Listing
more_room listing = record listing { promised = listing.promised + 1 }

abbrev pub less_room : Listing → Listing
less_room listing = record listing { promised = listing.promised - 1 }

-- a name that gives a number, in promised room
abbrev pub with_name : Name → ℕ → Listing → Listing
with_name name n listing = record listing {
  names = insert listing.names name n;
  promised = listing.promised - 1;
}

abbrev pub without_name : Name → Listing → Listing
without_name name listing = record listing { names = remove listing.names name }

-- the number that a name gives there
abbrev pub number_in : Option Listing → Name → Option ℕ
number_in (Some listing) name = get listing.names name
number_in None name = None

-- whether the object of a number is shown, and whether it is to come
abbrev pub is_shown_by : Stage → Bool
is_shown_by Held = true
is_shown_by Coming = false
is_shown_by Removed = false

abbrev pub is_shown : Option Place → Bool
is_shown (Some place) = is_shown_by place.stage
is_shown None = false

-- whether a directory is shown, so that its names are counted
abbrev pub is_directory : Option Object → Bool
is_directory (Some (Directory listing)) = true
is_directory _ = false

abbrev pub shows_names : Option Place → Bool
shows_names place = is_directory (held place)

abbrev pub is_coming_by : Stage → Bool
is_coming_by Coming = true
is_coming_by Held = false
is_coming_by Removed = false

abbrev pub is_coming : Option Place → Bool
is_coming (Some place) = is_coming_by place.stage
is_coming None = false

-- whether names may give the number: its object is shown or to come
abbrev pub may_be_named_by : Stage → Bool
may_be_named_by Held = true
may_be_named_by Coming = true
may_be_named_by Removed = false

abbrev pub may_be_named : Option Place → Bool
may_be_named (Some place) = may_be_named_by place.stage
may_be_named None = false

-- whether there is promised room
abbrev pub has_room : Option Listing → Bool
has_room (Some listing) = nat_lt 0 listing.promised
has_room None = false

-- whether an object is removed and nothing is promised in it any more
abbrev pub is_over_by : Stage → Bool → Bool
is_over_by Removed room = not room
is_over_by Coming room = false
is_over_by Held room = false

abbrev pub is_over : Option Place → Bool
is_over (Some place) = is_over_by place.stage (has_room (listing_of place.object))
is_over None = false

-- no rights are set of a number any more
abbrev pub unset : Numbers → ℕ → Numbers
unset s n = record s { rights = remove s.rights n }

-- the number of a removed object with no promised room is given up
abbrev pub swept : Numbers → ℕ → Numbers
swept s n =
    if is_over (get s.places n)
    then record s { places = remove s.places n; rights = remove s.rights n }
    else s

-- an object is removed, with its rights
abbrev pub lost : Numbers → ℕ → Numbers
lost s n = swept (altered hidden (unset s n) n) n

-- one promise is given up
abbrev pub released : Numbers → ℕ → Numbers
released s n = swept (altered (with_listing less_room) s n) n
