-- A call that only looks has no edits, and neither has one that is refused.
use Rattle.std.proofs.Common.{◌≡◌, ℕ, Bool, true, false, not, ◌==◌, [], Some, None, Result, Ok, Err, IfOk, refl, sym, ap, ◌∙◌}
use Rattle.model.specs.State.{Kernel, A_file, A_directory, A_pipe, A_link, A_fifo, A_socket}
use Rattle.model.specs.Plan.{Errno, EBADF, EINVAL, ELOOP, ENOTDIR, ESPIPE, given, or_refuse}
use Rattle.model.specs.Walks.{Place, is_directory, is_link, parsed, walk}
use Rattle.model.specs.Changes.{all_applied, tidy}
use Rattle.model.specs.Calls.{Call, Pread, Stat, Fstat, List_directory, Readlink, Lstat, Answer, Own, own}
use Rattle.model.specs.Plans.{Change, plan, slot, status, is_pipe, offset_named}
use Rattle.model.specs.Steps.{outcome, reply, reply_of, edits, edits_of}
use Rattle.call_laws.proofs.Laws.{after_bind, allowed, either_given, whatever}
use Rattle.redo_records.specs.Changing.{only_looks, changes, LeftOutChangesNothing}

-- no edits
abbrev Bare : Change → Type 0
Bare c = c.edits ≡ []

bare_status : (k : Kernel) (place : Place) → IfOk (given k (status place)) Bare
bare_status k (n, Some A_file) = refl
bare_status k (n, Some A_directory) = refl
bare_status k (n, Some A_pipe) = refl
bare_status k (n, Some A_link) = refl
bare_status k (n, Some A_fifo) = refl
bare_status k (n, Some A_socket) = refl
bare_status k (n, None) = tt

-- whatever the plan of a call that only looks gives, it is without edits
bare_plan : (k : Kernel) (own : Own) (call : Call) → only_looks call ≡ true → IfOk (given k (plan own call)) Bare
bare_plan k own (Pread f count offset) h =
    after_bind k Bare (slot own f) _ (whatever (given k (slot own f)) (λ it.
    allowed k Bare (not it.reading) EBADF _ (λ _.
    allowed k Bare (is_pipe it.kind) ESPIPE _ (λ _.
    after_bind k Bare (or_refuse EINVAL (offset_named offset)) _ (whatever (given k (or_refuse EINVAL (offset_named offset))) (λ at.
    either_given k Bare (count == 0) _ _ (λ _. refl) (λ _. refl)))))))
bare_plan k own (Stat path) h =
    after_bind k Bare (parsed own.bounds.path_bytes path) _ (whatever (given k (parsed own.bounds.path_bytes path)) (λ names.
    after_bind k Bare (walk (own.root, Some A_directory) names) _ (whatever (given k (walk (own.root, Some A_directory) names)) (λ place.
    allowed k Bare (is_link place) ELOOP _ (λ _. bare_status k place)))))
bare_plan k own (Fstat f) h =
    after_bind k Bare (slot own f) _ (whatever (given k (slot own f)) (λ it. bare_status k (it.inode, it.kind)))
bare_plan k own (List_directory path) h =
    after_bind k Bare (parsed own.bounds.path_bytes path) _ (whatever (given k (parsed own.bounds.path_bytes path)) (λ names.
    after_bind k Bare (walk (own.root, Some A_directory) names) _ (whatever (given k (walk (own.root, Some A_directory) names)) (λ place.
    allowed k Bare (is_link place) ELOOP _ (λ _.
    allowed k Bare (not (is_directory place)) ENOTDIR _ (λ _. refl))))))
bare_plan k own (Readlink path) h =
    after_bind k Bare (parsed own.bounds.path_bytes path) _ (whatever (given k (parsed own.bounds.path_bytes path)) (λ names.
    after_bind k Bare (walk (own.root, Some A_directory) names) _ (whatever (given k (walk (own.root, Some A_directory) names)) (λ place.
    allowed k Bare (not (is_link place)) EINVAL _ (λ _. refl)))))
bare_plan k own (Lstat path) h =
    after_bind k Bare (parsed own.bounds.path_bytes path) _ (whatever (given k (parsed own.bounds.path_bytes path)) (λ names.
    after_bind k Bare (walk (own.root, Some A_directory) names) _ (whatever (given k (walk (own.root, Some A_directory) names)) (λ place. bare_status k place))))
bare_plan k own call h = absurd cc

looks_by : (b : Bool) → not b ≡ false → b ≡ true
looks_by true h = refl
looks_by false h = absurd cc

-- a call that was answered as it is, and so can have changed nothing, has no edits
no_edits : (k : Kernel) (pid : ℕ) (call : Call) (answer : Result Answer Errno) → answer ≡ reply k pid call → changes call answer ≡ false → edits k pid call ≡ []
no_edits k pid call answer is none = by (outcome k pid call) (ap (changes call) (sym is) ∙ none) (bare_plan k (own k pid call) call) where
  by : (r : Result Change Errno) → changes call (reply_of r) ≡ false → (only_looks call ≡ true → IfOk r Bare) → edits_of r ≡ []
  by (Ok c) h bare = bare (looks_by (only_looks call) h)
  by (Err e) h bare = refl

pub left_out_changes_nothing : LeftOutChangesNothing
left_out_changes_nothing k after pid call answer chosen step none =
    let bare : edits k pid call ≡ [] = no_edits k pid call answer step.replied none in
    (bare, step.changed ∙ ap (λ es. tidy (all_applied chosen es k)) bare)
