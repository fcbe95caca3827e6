-- What a view has noted becomes everybody's, one inode after the other.
use Rattle.std.proofs.Common.{◌≡◌, ℕ, ◌==◌, Bool, true, false, cond, List, [], ◌∷◌, Option, Some, None, nat_eq, nat_cmp, refl, sym, ap, ◌∙◌, eqb-true}
use Rattle.std.specs.Cmp.{nat_eq_equiv}
use Rattle.std.specs.List.{IsDistinct}
use Rattle.std.specs.Map.{keys_of, lookup}
use Rattle.std.proofs.lemmas.Map.{lookup-none}
use Rattle.std.proofs.lemmas.Map.Entries.{none_past_head}
use Rattle.std.proofs.lemmas.Map.Keys.{IsDistinct-tail}
use Rattle.model.specs.FiniteMap.{FinMap, get}
use Rattle.view_times.specs.Kept.{merged_if, notes_by}
use Rattle.view_times.specs.Noted.{merged, nothing}
use Rattle.view_times.specs.declared.noted.Notes.{Notes}
use Rattle.view_times.specs.declared.times.Times.{Times}
use Rattle.view_times.proofs.Written.{turned}

abbrev Everybody : Type 0
Everybody = FinMap nat_cmp Times

pub merged_nothing : (times : Option Times) → merged_if nothing times ≡ times
merged_nothing None = refl
merged_nothing (Some times) = refl

-- ---- one inode

-- what is noted of an inode with a place, as one row of everybody's
pub merged_there : (everybody : Everybody) (inode : ℕ) (notes : Notes) (times now : Times) → get everybody inode ≡ Some times → now ≡ merged notes times → (q : ℕ) → cond (inode == q) (Some now) (get everybody q) ≡ cond (inode == q) (merged_if notes (get everybody q)) (get everybody q)
merged_there everybody inode notes times now there is q = by (inode == q) refl
  where
    by : (b : Bool) → (inode == q) ≡ b → cond b (Some now) (get everybody q) ≡ cond b (merged_if notes (get everybody q)) (get everybody q)
    by true same = ap Some is ∙ ap (merged_if notes) (sym there ∙ ap (get everybody) (eqb-true inode q same))
    by false differ = refl

-- and of one that has none
pub merged_nowhere : (everybody : Everybody) (inode : ℕ) (notes : Notes) → get everybody inode ≡ None → (q : ℕ) → get everybody q ≡ cond (inode == q) (merged_if notes (get everybody q)) (get everybody q)
merged_nowhere everybody inode notes nowhere q = by (inode == q) refl
  where
    by : (b : Bool) → (inode == q) ≡ b → get everybody q ≡ cond b (merged_if notes (get everybody q)) (get everybody q)
    by true same =
        let none : get everybody q ≡ None = ap (get everybody) (sym (eqb-true inode q same)) ∙ nowhere in
        none ∙ sym (ap (merged_if notes) none)
    by false differ = refl

-- ---- all inodes of a view

-- what is left becomes everybody's, and then all has
pub record Merges (start now : Everybody) (all rest : List (ℕ × Notes)) : Type 0 where
  pub left : (q : ℕ) → merged_if (notes_by (lookup (nat_eq q) rest)) (get now q) ≡ merged_if (notes_by (lookup (nat_eq q) all)) (get start q)
  pub apart : IsDistinct nat_eq (keys_of rest)

pub merges_nothing : (start : Everybody) (all : List (ℕ × Notes)) → IsDistinct nat_eq (keys_of all) → Merges start start all all
merges_nothing start all apart = record { left = λ q. refl; apart = apart }

pub merges_on : (start now after : Everybody) (all : List (ℕ × Notes)) (inode : ℕ) (notes : Notes) (rest : List (ℕ × Notes)) → Merges start now all ((inode, notes) ∷ rest) → ((q : ℕ) → get after q ≡ cond (inode == q) (merged_if notes (get now q)) (get now q)) → Merges start after all rest
merges_on start now after all inode notes rest merges is = record {
  left = λ q. by q (inode == q) refl;
  apart = IsDistinct-tail nat_eq inode (keys_of rest) merges.apart;
}
  where
    -- the first one is not among the others
    absent : (q : ℕ) → (inode == q) ≡ true → lookup (nat_eq q) rest ≡ None
    absent q same = lookup-none (nat_eq q) rest (none_past_head nat_eq_equiv q (inode, notes) rest merges.apart (turned inode q ∙ same))

    by : (q : ℕ) (b : Bool) → (inode == q) ≡ b → merged_if (notes_by (lookup (nat_eq q) rest)) (get after q) ≡ merged_if (notes_by (lookup (nat_eq q) all)) (get start q)
    by q true same =
        ap (λ (o : Option Notes). merged_if (notes_by o) (get after q)) (absent q same)
        ∙ merged_nothing (get after q)
        ∙ is q
        ∙ ap (λ b. cond b (merged_if notes (get now q)) (get now q)) same
        ∙ sym (ap (λ b. merged_if (notes_by (cond b (Some notes) (lookup (nat_eq q) rest))) (get now q)) (turned inode q ∙ same))
        ∙ merges.left q
    by q false differ =
        ap (merged_if (notes_by (lookup (nat_eq q) rest))) (is q ∙ ap (λ b. cond b (merged_if notes (get now q)) (get now q)) differ)
        ∙ sym (ap (λ b. merged_if (notes_by (cond b (Some notes) (lookup (nat_eq q) rest))) (get now q)) (turned inode q ∙ differ))
        ∙ merges.left q

pub all_merged : (start now : Everybody) (all : List (ℕ × Notes)) → Merges start now all [] → (q : ℕ) → get now q ≡ merged_if (notes_by (lookup (nat_eq q) all)) (get start q)
all_merged start now all merges q = sym (merged_nothing (get now q)) ∙ merges.left q
