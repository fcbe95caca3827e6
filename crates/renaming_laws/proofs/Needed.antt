-- A state in which a descriptor gives no description: there a call tells the numbers apart.
use Rattle.std.proofs.Common.{◌≡◌, ℕ, pos, [], ◌∷◌, Result, Ok, refl, sym, ap, ◌∙◌}
use Rattle.model.specs.FiniteMap.{empty, insert, computes}
use Rattle.model.specs.Limits.{default_bounds}
use Rattle.model.specs.State.{Kernel, File}
use Rattle.model.specs.Plan.{Errno}
use Rattle.model.specs.Calls.{Lseek, From_end, Answer, New_place}
use Rattle.model.specs.Steps.{reply}
use Rattle.renaming_laws.specs.Renaming.{swap, renamed, renamed_map}
use Rattle.renaming_laws.specs.Renamed.{renamed_answer, mapped_ok}
use Rattle.renaming_laws.specs.Laws.{SlotsAreNeeded}

-- descriptor 3 of process 1 gives number 9, which is nothing, and 0 is a file of one byte
astray : Kernel
astray = record {
  root = 5;
  inodes = insert empty 0 (File (7 ∷ []));
  rights = empty;
  descriptions = empty;
  processes = insert empty 1 (record { table = insert empty 3 9; priority = 0 });
  made = 1;
  bounds = default_bounds;
}

before : reply astray 1 (Lseek 3 (pos 0) From_end) ≡ Ok (New_place 1)
unfolding astray computes
before = refl

behind : reply (renamed (swap 0 1) astray) 1 (Lseek 3 (pos 0) From_end) ≡ Ok (New_place 0)
unfolding astray computes renamed_map
behind = refl

place_of : Result Answer Errno → ℕ
place_of (Ok (New_place place)) = place
place_of _ = 2

zero_is_not_one : ◌≡◌ {A = ℕ} 0 1 → ⊥
zero_is_not_one e = absurd cc

pub slots_are_needed : SlotsAreNeeded
unfolding place_of
slots_are_needed = record {
  state = astray;
  pid = 1;
  call = Lseek 3 (pos 0) From_end;
  differ = λ e. zero_is_not_one (ap place_of (sym behind ∙ e ∙ ap (mapped_ok (renamed_answer (swap 0 1))) before));
}
