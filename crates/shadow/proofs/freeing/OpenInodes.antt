-- Whether a description is of an inode: the stored count of a file, and the two descriptions of a pipe.
use Rattle.std.proofs.Common.{◌≡◌, ◌≢◌, ℕ, ◌<◌, ◌||◌, nat_lt, lt-ltb, Bool, true, false, Option, Some, None, refl, sym, ap, ◌∙◌}
use Rattle.std.specs.Option.{option_and_then}
use Rattle.model.specs.FiniteMap.{get}
use Rattle.ids.specs.Fixed.{fixed_kind}
use Rattle.model.specs.State.{A_directory, kind, mapped}
use Rattle.model.specs.Changes.{openings}
use Rattle.freeing_laws.specs.Pipes.{is_of}
use Rattle.freeing_laws.proofs.Pipes.{pipes_keep_their_ends_lem}
use Rattle.store.specs.Numbers.{Numbers, held, if_held, object_at}
use Rattle.store.specs.Places.{file_in, file_of, openings_at, openings_of, pipe_of}
use Rattle.store.specs.Shown.{descriptions, inode_of, inodes}
use Rattle.store.specs.declared.OpenPipe.{OpenPipe}
use Rattle.store.specs.declared.Place.{Place}
use Rattle.store.specs.declared.Stage.{Stage}
use Rattle.store.specs.declared.Stage.TheVariants.{Coming, Held, Removed}
use Rattle.store.specs.declared.Object.{Object}
use Rattle.store.specs.declared.Object.TheVariants.{Directory as Kept_directory, File as Kept_file, Pipe as Kept_pipe, Fixed as Kept_fixed, Description as Kept_description, Nothing}
use Rattle.store.proofs.Laws.{get-inodes}
use Rattle.shadow.specs.Laid.{Holds}
use Rattle.shadow.specs.Stored.{Processes, state_of}
use Rattle.shadow.proofs.shared.FixedKinds.{not_opened}

-- what a look for a pipe found
pub pipe_there : (o : Option Object) (pipe : OpenPipe) → Some pipe ≡ option_and_then pipe_of o → o ≡ Some (Kept_pipe pipe)
pipe_there None pipe is = absurd cc
pipe_there (Some (Kept_pipe other)) pipe is = ap (λ (o : Option OpenPipe). with_pipe other o) (sym is)
  where
    with_pipe : OpenPipe → Option OpenPipe → Option Object
    with_pipe p (Some q) = Some (Kept_pipe q)
    with_pipe p None = Some (Kept_pipe p)
pipe_there (Some (Kept_fixed fixed)) pipe is = absurd cc
pipe_there (Some (Kept_directory listing)) pipe is = absurd cc
pipe_there (Some (Kept_file file)) pipe is = absurd cc
pipe_there (Some (Kept_description opened)) pipe is = absurd cc
pipe_there (Some Nothing) pipe is = absurd cc

above : (n : ℕ) → 0 < n → true ≡ nat_lt 0 n
above n some = sym (lt-ltb 0 n some)

module _ (ps : Processes) (s : Numbers) (n : ℕ) (holds : Holds ps s) where
  -- a pipe is open while one of its two descriptions is there
  pub pipe_open : (pipe : OpenPipe) → object_at s n ≡ Some (Kept_pipe pipe) → (is_of n (get (descriptions s) pipe.reader) || is_of n (get (descriptions s) pipe.writer)) ≡ nat_lt 0 (openings (state_of ps s) n)
  pipe_open pipe is = by_tests (is_of n (get (descriptions s) pipe.reader)) (is_of n (get (descriptions s) pipe.writer)) refl refl
    where
      by_tests : (r w : Bool) → is_of n (get (descriptions s) pipe.reader) ≡ r → is_of n (get (descriptions s) pipe.writer) ≡ w → (r || w) ≡ nat_lt 0 (openings (state_of ps s) n)
      by_tests true w reader writer = above (openings (state_of ps s) n) (pipes_keep_their_ends_lem.opened (state_of ps s) n pipe.reader reader)
      by_tests false true reader writer = above (openings (state_of ps s) n) (pipes_keep_their_ends_lem.opened (state_of ps s) n pipe.writer writer)
      by_tests false false reader writer = sym (ap (nat_lt 0) (pipes_keep_their_ends_lem.closed (state_of ps s) n pipe.reader pipe.writer (holds.counted.pipes n pipe is) reader writer))

  -- the stored count of any other inode is right
  pub others_open : get (inodes s) n ≢ None → option_and_then pipe_of (object_at s n) ≡ None → openings_at s n ≡ openings (state_of ps s) n
  others_open there no_pipe = by_place (get s.places n) refl (λ none. there (get-inodes s n ∙ none)) no_pipe
    where
      by_object : (object : Object) → object_at s n ≡ Some object → inode_of object ≢ None → pipe_of object ≡ None → openings_of (file_of object) ≡ openings (state_of ps s) n
      by_object (Kept_file file) is there no_pipe = holds.counted.openings n file is
      by_object (Kept_directory l) is there no_pipe = sym (holds.unopened n A_directory (ap (mapped kind) (get-inodes s n ∙ ap (option_and_then inode_of) is)) (λ can. can))
      by_object (Kept_pipe pipe) is there no_pipe = absurd cc
      by_object (Kept_fixed fixed) is there no_pipe = sym (holds.unopened n (fixed_kind fixed) (ap (mapped kind) (get-inodes s n ∙ ap (option_and_then inode_of) is)) (not_opened fixed))
      by_object (Kept_description opened) is there no_pipe = absurd (there refl)
      by_object Nothing is there no_pipe = absurd (there refl)

      by_stage : (t : Stage) (object : Object) → get s.places n ≡ Some (record { stage = t; object = object }) → option_and_then inode_of (if_held t object) ≢ None → option_and_then pipe_of (if_held t object) ≡ None
          → openings_of (file_of object) ≡ openings (state_of ps s) n
      by_stage Held object is there no_pipe = by_object object (ap held is) there no_pipe
      by_stage Coming object is there no_pipe = absurd (there refl)
      by_stage Removed object is there no_pipe = absurd (there refl)

      by_place : (o : Option Place) → get s.places n ≡ o → option_and_then inode_of (held o) ≢ None → option_and_then pipe_of (held o) ≡ None → openings_of (file_in o) ≡ openings (state_of ps s) n
      by_place None is there no_pipe = absurd (there refl)
      by_place (Some place) is there no_pipe = by_stage place.stage place.object is there no_pipe
