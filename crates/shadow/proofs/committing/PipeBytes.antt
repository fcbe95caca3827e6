-- The changes of a pipe are laid over it.
use Rattle.std.proofs.Common.{◌≡◌, ◌≢◌, ◌≤◌, ℕ, ◌+◌, ◌-◌, List, ◌++◌, length, drop, Option, Some, None, sym, ap, subst, ◌∙◌, arith, length-append, length-drop}
use Rattle.std.specs.Option.{option_and_then, option_map}
use Rattle.ids.specs.declared.limits.TheConstants.{PIPE_CAPACITY}
use Rattle.model.specs.FiniteMap.{get}
use Rattle.model.specs.State.{pipe_of_inode}
use Rattle.model.proofs.Laws.{get_other, get_same}
use Rattle.pipe_shadow.specs.View.{PipeChanges, view_over}
use Rattle.store.specs.Numbers.{Numbers, held, object_at, present}
use Rattle.store.specs.Places.{IsRoomy, altered, passed, pipe_of, with_pipe}
use Rattle.store.specs.Shown.{inode_of, inodes}
use Rattle.store.specs.declared.OpenPipe.{OpenPipe}
use Rattle.store.specs.declared.Place.{Place}
use Rattle.store.specs.declared.Object.TheVariants.{Pipe as Kept_pipe}
use Rattle.store.proofs.Laws.{get-inodes, place-altered, place-other, with_place}
use Rattle.shadow.specs.Laid.{IsPassedOver, IsReadyPipe}

-- a new pipe
module _ (s t : Numbers) (n : ℕ) (pipe : OpenPipe) (is : t ≡ with_place s n (present (Kept_pipe pipe))) where
  pub pipe_here : get t.places n ≡ Some (present (Kept_pipe pipe))
  pipe_here = ap (λ (t : Numbers). get t.places n) is ∙ get_same s.places n (present (Kept_pipe pipe))

  pub pipe_beside : (m : ℕ) → m ≢ n → get t.places m ≡ get s.places m
  pipe_beside m away = ap (λ (t : Numbers). get t.places m) is ∙ get_other s.places n m (present (Kept_pipe pipe)) away

-- one that is there
module _ (s : Numbers) (n : ℕ) (changes : PipeChanges) (ready : IsReadyPipe None changes (get s.places n)) where
  abbrev pipe : OpenPipe
  pipe = ready.0

  bytes_there : pipe_of_inode (get (inodes s) n) ≡ pipe.bytes
  bytes_there = ap pipe_of_inode (get-inodes s n ∙ ap (λ o. option_and_then inode_of (held o)) ready.1)

  module _ (len taken : ℕ) (appended : List ℕ) (counts : len ≡ length (pipe_of_inode (get (inodes s) n))) (within : len ≤ PIPE_CAPACITY) (low : taken ≤ len)
      (view : (xs : List ℕ) → length xs ≡ len → drop taken xs ++ appended ≡ view_over changes xs) where
    pub len_is : len ≡ length pipe.bytes
    len_is = counts ∙ ap (λ (bytes : List ℕ). length bytes) bytes_there

    pub passed_is : drop taken pipe.bytes ++ appended ≡ view_over changes pipe.bytes
    passed_is = view pipe.bytes (sym len_is)

    roomy : IsRoomy taken appended (Some pipe)
    roomy =
        let count : len ≡ length pipe.bytes = len_is in
        let most : length pipe.bytes ≤ PIPE_CAPACITY = omega (arith, count, within) in
        let fits : length (view_over changes pipe.bytes) ≤ PIPE_CAPACITY = ready.2 most in
        let whole : length (drop taken pipe.bytes ++ appended) ≡ length (drop taken pipe.bytes) + length appended = length-append (drop taken pipe.bytes) appended in
        let less : length (drop taken pipe.bytes) ≡ length pipe.bytes - taken = length-drop taken pipe.bytes in
        let same : length (drop taken pipe.bytes ++ appended) ≡ length (view_over changes pipe.bytes) = ap (λ (bytes : List ℕ). length bytes) passed_is in
        let first : taken ≤ length pipe.bytes = omega (arith, count, low) in
        let second : length pipe.bytes - taken + length appended ≤ PIPE_CAPACITY = omega (arith, fits, whole, less, same) in
        (first, second)

    pub pipe_roomy : IsRoomy taken appended (option_and_then pipe_of (object_at s n))
    pipe_roomy = subst (λ (o : Option Place). IsRoomy taken appended (option_and_then pipe_of (held o))) (sym ready.1) roomy

    module _ (t : Numbers) (is : t ≡ altered (with_pipe (passed taken appended)) s n) where
      pub passed_over : IsPassedOver changes (get s.places n) (get t.places n)
      passed_over = record {
        pipe = pipe;
        was = ready.1;
        is = ap (λ (t : Numbers). get t.places n) is ∙ place-altered (with_pipe (passed taken appended)) s n ∙ ap (option_map (with_pipe (passed taken appended))) ready.1
            ∙ ap (λ bytes. Some (present (Kept_pipe (record pipe { bytes = bytes })))) passed_is;
      }

      pub passed_beside : (m : ℕ) → m ≢ n → get t.places m ≡ get s.places m
      passed_beside m away = ap (λ (t : Numbers). get t.places m) is ∙ place-other (with_pipe (passed taken appended)) s n m away
