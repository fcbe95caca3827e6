-- A new offset of a description.
use Rattle.std.proofs.Common.{◌≡◌, ◌≢◌, ℕ, Bool, ◌==◌, ◌&&◌, Option, Some, sum_by, count_by, refl, sym, ap, subst, ◌∙◌, inl, inr, [], append-nil}
use Rattle.model.specs.FiniteMap.{get, insert, values}
use Rattle.std.proofs.lemmas.Bool.{cases_eq}
use Rattle.model.specs.State.{Kernel, Description, pipe_of, offset_of, offset_in, is_end, ends, links}
use Rattle.model.specs.Aspects.{Aspect, Entry, Names, Size, Block, Links, Ends, Offset, Front, Back, Target, Rights, Keeps}
use Rattle.model.specs.Changes.{at_offset, set_offset}
use Rattle.model.proofs.Laws.{get_same, get_other}

-- the state with one description at that offset
abbrev pub with_offset : ℕ → ℕ → Description → Kernel → Kernel
with_offset d place it k = record k { descriptions = insert k.descriptions d (at_offset place it) }

pub set_there : (k : Kernel) (d place : ℕ) (it : Description) → get k.descriptions d ≡ Some it → set_offset d place (get k.descriptions d) k ≡ with_offset d place it k
set_there k d place it e = ap (λ (o : Option Description). set_offset d place o k) e

-- an answer about a description that does not look at the offset
pub unmoved_by : {B : Type 0} (f : Option Description → B) (k : Kernel) (d place : ℕ) (it : Description) → get k.descriptions d ≡ Some it → f (Some (at_offset place it)) ≡ f (Some it) → (t : ℕ) → f (get (with_offset d place it k).descriptions t) ≡ f (get k.descriptions t)
unmoved_by f k d place it e same t =
    elim (cases_eq t d) [
      | inl is ↦ ap (λ t. f (get (insert k.descriptions d (at_offset place it)) t)) is ∙ ap f (get_same k.descriptions d (at_offset place it)) ∙ same ∙ ap f (sym e) ∙ ap (λ t. f (get k.descriptions t)) (sym is)
      | inr away ↦ ap f (get_other k.descriptions d t (at_offset place it) away)
    ]

pub ends_unmoved : (k : Kernel) (d place : ℕ) (it : Description) → get k.descriptions d ≡ Some it → (p : ℕ) (mode : Description → Bool) → mode (at_offset place it) ≡ mode it → ends (with_offset d place it k) p mode ≡ ends k p mode
unfolding ends
ends_unmoved k d place it e p mode same =
    let each : (t : ℕ) → is_end mode p (get (with_offset d place it k).descriptions t) ≡ is_end mode p (get k.descriptions t) = unmoved_by (is_end mode p) k d place it e (ap (λ b. (it.inode == p) && b) same) in
    λ i. sum_by (λ process. count_by (λ t. each t i) (values process.table)) (values k.processes)

offset_here : (k : Kernel) (d place : ℕ) (it : Description) → offset_of (with_offset d place it k) d ≡ place
offset_here k d place it = ap offset_in (get_same k.descriptions d (at_offset place it))

pub offset_there : (k : Kernel) (d place : ℕ) (it : Description) (t : ℕ) → t ≢ d → offset_of (with_offset d place it k) t ≡ offset_of k t
offset_there k d place it t away = ap offset_in (get_other k.descriptions d t (at_offset place it) away)

keeps_at : (now later : Kernel) (d place : ℕ) (it is : Description) → get now.descriptions d ≡ Some it → get later.descriptions d ≡ Some is → (a : Aspect) → Keeps now later a → Keeps (with_offset d place it now) (with_offset d place is later) a
unfolding links
keeps_at now later d place it is e f (Entry t x) h = h
keeps_at now later d place it is e f (Names t) h = h
keeps_at now later d place it is e f (Size n) h = h
keeps_at now later d place it is e f (Block n block) h = h
keeps_at now later d place it is e f (Links n) h = h
keeps_at now later d place it is e f (Ends p) h = (
  ends_unmoved later d place is f p (λ d. d.reading) refl ∙ h.0 ∙ sym (ends_unmoved now d place it e p (λ d. d.reading) refl),
  ends_unmoved later d place is f p (λ d. d.writing) refl ∙ h.1 ∙ sym (ends_unmoved now d place it e p (λ d. d.writing) refl),
)
keeps_at now later d place it is e f (Offset t) h =
    elim (cases_eq t d) [
      | inl same ↦ ap (offset_of (with_offset d place is later)) same ∙ offset_here later d place is ∙ sym (ap (offset_of (with_offset d place it now)) same ∙ offset_here now d place it)
      | inr away ↦ offset_there later d place is t away ∙ h ∙ sym (offset_there now d place it t away)
    ]
keeps_at now later d place it is e f (Front p) h = h
keeps_at now later d place it is e f (Back p) h = h
keeps_at now later d place it is e f (Target n) h = h
keeps_at now later d place it is e f (Rights n) h = h

pub offset_keeps : (now later : Kernel) (d place : ℕ) (it is : Description) → get now.descriptions d ≡ Some it → get later.descriptions d ≡ Some is
    → (a : Aspect) → Keeps now later a → Keeps (set_offset d place (get now.descriptions d) now) (set_offset d place (get later.descriptions d) later) a
offset_keeps now later d place it is e f a h =
    subst (λ k. Keeps k (set_offset d place (get later.descriptions d) later) a) (sym (set_there now d place it e))
    (subst (λ k. Keeps (with_offset d place it now) k a) (sym (set_there later d place is f)) (keeps_at now later d place it is e f a h))

-- of what is there a new offset changes only that
pub offset_marks : (k : Kernel) (d place : ℕ) (it : Description) → get k.descriptions d ≡ Some it → (a : Aspect) → Offset d ≢ a → Keeps k (set_offset d place (get k.descriptions d) k) a
unfolding links
offset_marks k d place it e a alone = subst (λ after. Keeps k after a) (sym (set_there k d place it e)) (by_aspect a alone)
  where
    by_aspect : (a : Aspect) → Offset d ≢ a → Keeps k (with_offset d place it k) a
    by_aspect (Entry t x) alone = refl
    by_aspect (Names t) alone = refl
    by_aspect (Size n) alone = refl
    by_aspect (Block n block) alone = λ i is. refl
    by_aspect (Links n) alone = refl
    by_aspect (Ends p) alone = (ends_unmoved k d place it e p (λ d. d.reading) refl, ends_unmoved k d place it e p (λ d. d.writing) refl)
    by_aspect (Offset t) alone = offset_there k d place it t (λ same. alone (ap Offset (sym same)))
    by_aspect (Front p) alone = ([], sym (append-nil (pipe_of k p)))
    by_aspect (Back p) alone = ([], refl)
    by_aspect (Target n) alone = refl
    by_aspect (Rights n) alone = refl
