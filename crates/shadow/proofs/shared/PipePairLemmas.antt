-- What is said of the two descriptions of a pipe, where descriptions stay, come, move and go.
use Rattle.std.proofs.Common.{◌≡◌, ◌⊎◌, ℕ, ◌==◌, ◌&&◌, Bool, true, false, Option, Some, None, nat_cmp, refl, sym, ap, subst, ◌∙◌, eqb-true, eq-eqb, inl, inr}
use Rattle.std.specs.Option.{option_and_then, option_map}
use Rattle.std.proofs.lemmas.Bool.{cases_eq}
use Rattle.model.specs.FiniteMap.{FinMap, get, insert, remove}
use Rattle.model.specs.State.{A_pipe, Description, Kernel, is_end, kind, mapped}
use Rattle.model.specs.Changes.{at_offset}
use Rattle.model.proofs.Laws.{removed_other, removed_same}
use Rattle.call_laws.proofs.Laws.{not_none, true_is_false}
use Rattle.freeing_laws.specs.Pipes.{ArePair, reads, writes}
use Rattle.freeing_laws.proofs.Pipes.{pair_inserted}
use Rattle.store.specs.Numbers.{Numbers, held, if_held, object_at}
use Rattle.store.specs.Places.{altered, changed_file, changed_opened, changed_pipe, with_file, with_opened, with_pipe}
use Rattle.store.specs.Shown.{inode_of, with_offset, with_offset_by}
use Rattle.store.specs.declared.OpenFile.{OpenFile}
use Rattle.store.specs.declared.Opened.{Opened}
use Rattle.store.specs.declared.OpenPipe.{OpenPipe}
use Rattle.store.specs.declared.Place.{Place}
use Rattle.store.specs.declared.Stage.{Stage}
use Rattle.store.specs.declared.Stage.TheVariants.{Coming, Held, Removed}
use Rattle.store.specs.declared.Object.{Object}
use Rattle.store.specs.declared.Object.TheVariants.{Directory as Kept_directory, File as Kept_file, Pipe as Kept_pipe, Fixed as Kept_fixed, Description as Kept_description, Nothing}
use Rattle.store.proofs.Laws.{left-altered}

-- where the descriptions are the same
pub same_pairs : (k l : Kernel) → l.descriptions ≡ k.descriptions → (p r w : ℕ) → ArePair k.descriptions p r w → ArePair l.descriptions p r w
same_pairs k l same p r w pair = subst (λ m. ArePair m p r w) (sym same) pair

-- where one goes
pub pair_removed : (m : FinMap nat_cmp Description) (d p r w : ℕ) → ArePair m p r w → ArePair (remove m d) p r w
pair_removed m d p r w pair = record {
  reads = λ e is. by_end reads e is (pair.reads e);
  writes = λ e is. by_end writes e is (pair.writes e);
  either = λ e it is of_p. elim (cases_eq e d) [
    | inl same ↦ absurd (not_none it (sym is ∙ ap (get (remove m d)) same ∙ removed_same m d))
    | inr away ↦ pair.either e it (sym (removed_other m d e away) ∙ is) of_p
  ];
}
  where
    by_end : {X : Type 0} (mode : Description → Bool) (e : ℕ) → is_end mode p (get (remove m d) e) ≡ true → (is_end mode p (get m e) ≡ true → X) → X
    by_end mode e is so = elim (cases_eq e d) [
      | inl same ↦ absurd (true_is_false (sym is ∙ ap (is_end mode p) (ap (get (remove m d)) same ∙ removed_same m d)))
      | inr away ↦ so (sym (ap (is_end mode p) (removed_other m d e away)) ∙ is)
    ]

-- where an offset changes
pub pair_offset : (place : ℕ) (m : FinMap nat_cmp Description) (d p r w : ℕ) → ArePair m p r w → ArePair (with_offset place m d) p r w
pair_offset place m d p r w pair = by_old (get m d) refl
  where
    by_old : (o : Option Description) → get m d ≡ o → ArePair (with_offset_by place o m d) p r w
    by_old None is = pair
    by_old (Some it) is = pair_inserted m p r w d (at_offset place it) (λ h. pair.reads d (ap (is_end reads p) is ∙ h)) (λ h. pair.writes d (ap (is_end writes p) is ∙ h)) (λ h. pair.either d it is h) pair

-- an end is of the pipe, and open in this mode
pub end_is : (mode : Description → Bool) (p : ℕ) (it : Description) → is_end mode p (Some it) ≡ true → (it.inode ≡ p) × (mode it ≡ true)
end_is mode p it is = by_test (it.inode == p) refl is
  where
    by_test : (b : Bool) → (it.inode == p) ≡ b → (b && mode it) ≡ true → (it.inode ≡ p) × (mode it ≡ true)
    by_test true same is = (eqb-true it.inode p same, is)
    by_test false same is = absurd (true_is_false (sym is))

pub end_of : (mode : Description → Bool) (it : Description) → mode it ≡ true → is_end mode it.inode (Some it) ≡ true
end_of mode it is = ap (λ b. b && mode it) (eq-eqb it.inode it.inode refl) ∙ is

-- where one comes, which is an end of the pipe if it is of it
pub pair_comes : (m : FinMap nat_cmp Description) (p r w d : ℕ) (it : Description)
    → (it.inode ≡ p → (it.reading ≡ true → d ≡ r) × (it.writing ≡ true → d ≡ w) × ((d ≡ r) ⊎ (d ≡ w)))
    → ArePair m p r w → ArePair (insert m d it) p r w
pair_comes m p r w d it ends pair = pair_inserted m p r w d it
    (λ is. (ends (end_is reads p it is).0).0 (end_is reads p it is).1)
    (λ is. (ends (end_is writes p it is).0).1 (end_is writes p it is).1)
    (λ of_p. (ends of_p).2) pair

-- the pipe that an object is, and its two descriptions
abbrev pub shown_pipe : Option Object → Option OpenPipe
shown_pipe (Some (Kept_pipe pipe)) = Some pipe
shown_pipe _ = None

abbrev pub ends_in : OpenPipe → ℕ × ℕ
ends_in pipe = (pipe.reader, pipe.writer)

abbrev pub ends_seen : Option Object → Option (ℕ × ℕ)
ends_seen o = option_map ends_in (shown_pipe o)

pub pipe_of_object : (o : Option Object) (pipe : OpenPipe) → shown_pipe o ≡ Some pipe → o ≡ Some (Kept_pipe pipe)
pipe_of_object (Some (Kept_pipe it)) pipe is = ap (option_map Kept_pipe) is
pipe_of_object (Some (Kept_fixed fixed)) pipe is = absurd cc
pipe_of_object (Some (Kept_directory listing)) pipe is = absurd cc
pipe_of_object (Some (Kept_file file)) pipe is = absurd cc
pipe_of_object (Some (Kept_description opened)) pipe is = absurd cc
pipe_of_object (Some Nothing) pipe is = absurd cc
pipe_of_object None pipe is = absurd cc

-- it is one in the state too
pub ends_kind : (o : Option Object) (ends : ℕ × ℕ) → ends_seen o ≡ Some ends → mapped kind (option_and_then inode_of o) ≡ Some A_pipe
ends_kind (Some (Kept_pipe pipe)) ends is = refl
ends_kind (Some (Kept_fixed fixed)) ends is = absurd cc
ends_kind (Some (Kept_directory listing)) ends is = absurd cc
ends_kind (Some (Kept_file file)) ends is = absurd cc
ends_kind (Some (Kept_description opened)) ends is = absurd cc
ends_kind (Some Nothing) ends is = absurd cc
ends_kind None ends is = absurd cc

-- a change of something else leaves it
pub pipe_by_file : (g : OpenFile → OpenFile) (place : Place) → shown_pipe (held (Some (with_file g place))) ≡ shown_pipe (held (Some place))
pipe_by_file g place = by_stage place.stage place.object
  where
    by_stage : (t : Stage) (object : Object) → shown_pipe (if_held t (changed_file g object)) ≡ shown_pipe (if_held t object)
    by_stage Coming object = refl
    by_stage Removed object = refl
    by_stage Held (Kept_directory listing) = refl
    by_stage Held (Kept_file file) = refl
    by_stage Held (Kept_pipe pipe) = refl
    by_stage Held (Kept_fixed fixed) = refl
    by_stage Held (Kept_description opened) = refl
    by_stage Held Nothing = refl

pub pipe_by_opened : (g : Opened → Opened) (place : Place) → shown_pipe (held (Some (with_opened g place))) ≡ shown_pipe (held (Some place))
pipe_by_opened g place = by_stage place.stage place.object
  where
    by_stage : (t : Stage) (object : Object) → shown_pipe (if_held t (changed_opened g object)) ≡ shown_pipe (if_held t object)
    by_stage Coming object = refl
    by_stage Removed object = refl
    by_stage Held (Kept_directory listing) = refl
    by_stage Held (Kept_file file) = refl
    by_stage Held (Kept_pipe pipe) = refl
    by_stage Held (Kept_fixed fixed) = refl
    by_stage Held (Kept_description opened) = refl
    by_stage Held Nothing = refl

-- so does a change of a pipe that leaves its two descriptions
pub ends_by_pipe : (g : OpenPipe → OpenPipe) → ((pipe : OpenPipe) → ends_in (g pipe) ≡ ends_in pipe) → (place : Place) → ends_seen (held (Some (with_pipe g place))) ≡ ends_seen (held (Some place))
ends_by_pipe g same place = by_stage place.stage place.object
  where
    by_stage : (t : Stage) (object : Object) → ends_seen (if_held t (changed_pipe g object)) ≡ ends_seen (if_held t object)
    by_stage Coming object = refl
    by_stage Removed object = refl
    by_stage Held (Kept_directory listing) = refl
    by_stage Held (Kept_file file) = refl
    by_stage Held (Kept_pipe pipe) = ap (λ e. Some e) (same pipe)
    by_stage Held (Kept_fixed fixed) = refl
    by_stage Held (Kept_description opened) = refl
    by_stage Held Nothing = refl

-- a pipe that stands after a change of something else stood before
module _ (f : Place → Place) (leaves : (place : Place) → shown_pipe (held (Some (f place))) ≡ shown_pipe (held (Some place))) (s : Numbers) (n : ℕ) where
  pub pipes_left : (p : ℕ) → shown_pipe (object_at (altered f s n) p) ≡ shown_pipe (object_at s p)
  pipes_left p = left-altered (λ o. shown_pipe (held o)) f leaves s n p

  pub pipe_stood : (p : ℕ) (pipe : OpenPipe) → object_at (altered f s n) p ≡ Some (Kept_pipe pipe) → object_at s p ≡ Some (Kept_pipe pipe)
  pipe_stood p pipe is = pipe_of_object (object_at s p) pipe (sym (pipes_left p) ∙ ap shown_pipe is)

  pub ends_left : (p : ℕ) → ends_seen (object_at (altered f s n) p) ≡ ends_seen (object_at s p)
  ends_left p = ap (option_map ends_in) (pipes_left p)
