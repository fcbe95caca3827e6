-- A file's bytes are noted.
use Rattle.std.proofs.Common.{◌≡◌, ◌↔◌, ℕ, List, ◌++◌, Option, None, refl, sym, subst}
use Rattle.std.specs.List.{Contains}
use Rattle.std.specs.Prelude.{⊤}
use Rattle.model.specs.State.{Inode}
use Rattle.notes.specs.declared.change.Contents.{Contents}
use Rattle.notes.specs.declared.change.Contents.TheVariants.{Same, Names, Bytes, Pipe as Piped, Fixed as As_fixed}
use Rattle.notes.specs.Patches.{AllReach, new_ends, of_pipe, of_fixed, Form, Net, added_by, form_of, no_change, numbers_in, of_bytes, of_names, patched}
use Rattle.notes.specs.Notes.{IsFiled}
use Rattle.notes.specs.Steps.{filed}

abbrev is_filed : Form → Type 0
is_filed (of_bytes fresh) = ⊤
is_filed _ = ⊥

filed_is : (form : Form) → is_filed (filed form)
filed_is no_change = tt
filed_is (of_bytes fresh) = tt
filed_is (of_names fresh) = tt
filed_is (of_pipe fresh) = tt
filed_is of_fixed = tt

adds_none : (c : Contents) → is_filed (form_of c) → added_by c ≡ 0
adds_none Same h = absurd h
adds_none (Names fresh notes) h = absurd h
adds_none (Bytes fresh bytes) h = refl
adds_none (Piped fresh changes) h = absurd h
adds_none (As_fixed fixed) h = absurd h

ends_none : (c : Contents) → is_filed (form_of c) → new_ends c ≡ None
ends_none Same h = absurd h
ends_none (Names fresh notes) h = absurd h
ends_none (Bytes fresh bytes) h = refl
ends_none (Piped fresh changes) h = absurd h
ends_none (As_fixed fixed) h = absurd h

all_reach : (c : Contents) → is_filed (form_of c) → (o : Option Inode) → AllReach c o
all_reach Same h o = absurd h
all_reach (Names fresh notes) h o = absurd h
all_reach (Bytes fresh bytes) h o = tt
all_reach (Piped fresh changes) h o = absurd h
all_reach (As_fixed fixed) h o = absurd h

pub filed_on : (f : Option Inode → Option Inode) (more : List ℕ) (old : Net) (contents : Contents)
    → ((o : Option Inode) → patched contents o ≡ f (patched old.contents o)) → form_of contents ≡ filed (form_of old.contents)
    → ((b : ℕ) → Contains (numbers_in contents) b ↔ Contains (numbers_in old.contents ++ more) b) → IsFiled f more old (record old { contents = contents })
filed_on f more old contents so form numbers = record {
  contents = so;
  form = form;
  added = adds_none contents filed_now;
  reached = all_reach contents filed_now;
  ends = ends_none contents filed_now;
  numbers = numbers;
  rest = refl;
}
  where
    filed_now : is_filed (form_of contents)
    filed_now = subst is_filed (sym form) (filed_is (form_of old.contents))
