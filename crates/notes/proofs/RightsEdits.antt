-- What patches take in of an edit of the rights of an inode.
use Rattle.std.proofs.Common.{◌≡◌, ℕ, ◌==◌, cond, is_eq, nat_cmp, List, Option, Some, refl, sym, ap, ◌∙◌, arith, eq-eqb, ne_eqb, inl, inr, append-nil}
use Rattle.std.proofs.lemmas.Bool.{cases_eq}
use Rattle.model.specs.State.{Rights}
use Rattle.model.specs.Changes.{Set_rights}
use Rattle.model.proofs.Laws.{tied, untied}
use Rattle.notes.specs.Patches.{Patches, kept_at, net_at, numbers_in, rights_over}
use Rattle.notes.specs.Notes.{AtRights, SamePatches}
use Rattle.notes.specs.Steps.{TakesIn}
use Rattle.notes.proofs.InodeNotes.{as_written}

abbrev pub Kept_rights : Type 0
Kept_rights = List (ℕ × Rights)

-- one number has these now, in std's words
pub rights_at : (n : ℕ) (rights : Rights) (old new : Kept_rights) → ((q : ℕ) → kept_at new q ≡ cond (is_eq (nat_cmp n q)) (Some rights) (kept_at old q)) → AtRights n rights old new
rights_at n rights old new is = record {
  here = is n ∙ tied n n (Some rights) (kept_at old n) refl;
  others = λ q away. is q ∙ untied n q (Some rights) (kept_at old q) (λ same. away (sym same));
}

set_over : (n : ℕ) (rights : Rights) (s t : Kept_rights) → AtRights n rights s t → (q : ℕ) (o : Option Rights) → rights_over (kept_at t q) o ≡ cond (q == n) (Some rights) (rights_over (kept_at s q) o)
set_over n rights s t at q o = elim (cases_eq q n) [
  | inl here ↦ rw (eq-eqb q n here) (ap (λ kept. rights_over kept o) (ap (kept_at t) here ∙ at.here))
  | inr away ↦ rw (ne_eqb q n away) (ap (λ kept. rights_over kept o) (at.others q away))
]

pub setting_takes : (chosen : List ℕ) (n : ℕ) (rights : Rights) (old : Patches) (now : Kept_rights) → AtRights n rights old.rights now → TakesIn chosen (Set_rights n rights) old (record old { rights = now })
setting_takes chosen n rights old now set = record {
  inodes = λ q o can. refl;
  reach = λ q o can was. was;
  pipes = λ q ends is. inl is;
  rights = set_over n rights old.rights now set;
  descriptions = λ d o. refl;
  processes = λ pid o. refl;
  made = λ q. refl;
  promised = λ q. omega arith;
  named = λ q. omega arith;
  unnamed = λ q. omega arith;
  unnamed_inodes = sym (append-nil old.unnamed_inodes);
  forms = λ q. refl;
  added = λ q. omega arith;
  news = λ d. refl;
  written = λ q b. as_written b (numbers_in (net_at old.inodes q).contents) (numbers_in (net_at old.inodes q).contents) refl;
}

-- where none are set, all shows as before
pub unset_same : (old : Patches) (now : Kept_rights) → now ≡ old.rights → SamePatches old (record old { rights = now })
unset_same old now same = record {
  inodes = record { nets = λ n. refl; places = λ n there. there };
  rights = λ n. ap (λ (rs : Kept_rights). kept_at rs n) same;
  openings = λ d. refl;
  processes = λ pid o. refl;
  unnamed_inodes = refl;
}
