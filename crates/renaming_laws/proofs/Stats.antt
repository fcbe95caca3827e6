-- Of a run's calls only the status of the path `/` tells the root.
use Rattle.std.proofs.Common.{◌≡◌, ◌≢◌, ◌⊎◌, ℕ, Bool, true, false, nat_lt, if◌then◌else◌, Some, List, [], ◌∷◌, length, Result, Ok, Err, IfOk, inl, inr, refl, sym, ap, subst, ◌∙◌}
use Rattle.std.specs.List.{AllByRecursion}
use Rattle.model.specs.State.{Kernel, A_directory, rights_of}
use Rattle.model.specs.Plan.{Errno, ELOOP, ENAMETOOLONG, given, ◌>>=◌, ◌>>◌, refuse_if}
use Rattle.model.specs.Paths.{absolute_names}
use Rattle.model.specs.Walks.{told, walk, is_link}
use Rattle.model.specs.Changes.{Edit, all_applied, tidy}
use Rattle.model.specs.Calls.{Call, Stat, Lstat, Answer, Stated}
use Rattle.model.specs.Plans.{Change, status}
use Rattle.model.specs.Steps.{outcome, reply_of, edits_of, edits, reply, Item, Run}
use Rattle.model.specs.Moments.{Setup, start}
use Rattle.call_laws.proofs.Laws.{all-mapped, weaken}
use Rattle.renaming_laws.specs.Laws.{SlotsAreThere, HasNumbers, TellsNot, IsStatOfRoot, TellsRoot, StatTellsTheRoot}
use Rattle.renaming_laws.proofs.Sound.{call_sound, edits_sound}
use Rattle.renaming_laws.proofs.Slots as slots
use Rattle.renaming_laws.proofs.Slots.{slots_at_start}
use Rattle.renaming_laws.proofs.Chosen as chosen
use Rattle.renaming_laws.proofs.Chosen.{HasRoot, root_at_start}
use Rattle.renaming_laws.proofs.Apart as apart
use Rattle.renaming_laws.proofs.Apart.{IsApart, GivesNot, apart_at_start}
use Rattle.renaming_laws.proofs.Guarded.{IsGuarded, call_guarded}

tells_of : (root : ℕ) (call : Call) (o : Result Change Errno) → IfOk o (IsGuarded root call) → TellsNot root (reply_of o) ⊎ TellsRoot root call (reply_of o)
tells_of root call (Ok c) h = h.tells
tells_of root call (Err e) h = inl tt

gives_of : (root : ℕ) (call : Call) (o : Result Change Errno) → IfOk o (IsGuarded root call) → AllByRecursion (GivesNot root) (edits_of o)
gives_of root call (Ok c) h = h.gives
gives_of root call (Err e) h = tt

-- what holds of each state of a run
record Holds (root : ℕ) (k : Kernel) : Type 0 where
  slots : SlotsAreThere k
  root_there : HasRoot root k
  apart : IsApart root k

tells : (root : ℕ) (k : Kernel) → Holds root k → (items : List Item) (after : Kernel) → Run k items after → AllByRecursion (λ it. TellsNot root it.answer ⊎ TellsRoot root it.call it.answer) items
tells root k h [] after run = tt
tells root k h (it ∷ items) after run =
    let step = run.1 in
    let es : List Edit = edits k it.pid it.call in
    let guarded = call_guarded root k h.apart h.root_there.is h.slots it.pid it.call in
    let sound = edits_sound k (outcome k it.pid it.call) (call_sound k h.slots it.pid it.call) in
    let numbers : AllByRecursion (HasNumbers (length it.chosen)) es = subst (λ count. AllByRecursion (HasNumbers count) es) (sym step.numbers.count) sound.numbers in
    let away : AllByRecursion (λ n. n ≢ root) it.chosen = all-mapped it.chosen (λ n nowhere. chosen.away root k h.root_there n nowhere) step.numbers.unused in
    let next : Holds root (tidy (all_applied it.chosen es k)) = record {
      slots = slots.tidying_keeps (all_applied it.chosen es k) (slots.edits_keep it.chosen k es sound.shares h.slots);
      root_there = chosen.tidying_keeps root (all_applied it.chosen es k) (chosen.edits_keep root it.chosen k es h.root_there);
      apart = apart.tidying_keeps root (all_applied it.chosen es k) (apart.edits_keep root it.chosen k es away numbers (gives_of root it.call (outcome k it.pid it.call) guarded) h.apart);
    } in (
      subst (λ answer. TellsNot root answer ⊎ TellsRoot root it.call answer) (sym step.replied) (tells_of root it.call (outcome k it.pid it.call) guarded),
      tells root run.0 (subst (Holds root) (sym step.changed) next) items after run.2,
    )

-- an answer that tells the root, with the root's rights, if it is no refusal
abbrev IsToldIn : Kernel → Result Answer Errno → Type 0
IsToldIn k r = IfOk r (λ _. r ≡ Ok (Stated (record { kind = A_directory; num = k.root; size = 0; links = 1; rights = rights_of k k.root })))

-- it tells it in every state, unless no path may have a byte
pub root_is_told : (k : Kernel) (pid : ℕ) → IsToldIn k (reply k pid (Stat (47 ∷ [])))
root_is_told k pid = by_length (nat_lt k.bounds.path_bytes 1)
  where
    by_length : (t : Bool) → IsToldIn k (reply_of (given k (told (if t then Err ENAMETOOLONG else absolute_names (47 ∷ [])) >>= (λ names. walk (k.root, Some A_directory) names >>= (λ place. refuse_if (is_link place) ELOOP >> status place)))))
    by_length true = tt
    by_length false = refl

pub root_is_told_by_lstat : (k : Kernel) (pid : ℕ) → IsToldIn k (reply k pid (Lstat (47 ∷ [])))
root_is_told_by_lstat k pid = by_length (nat_lt k.bounds.path_bytes 1)
  where
    by_length : (t : Bool) → IsToldIn k (reply_of (given k (told (if t then Err ENAMETOOLONG else absolute_names (47 ∷ [])) >>= (λ names. walk (k.root, Some A_directory) names >>= status))))
    by_length true = tt
    by_length false = refl

told_by_either : (k : Kernel) (pid : ℕ) (call : Call) → IsStatOfRoot call → IsToldIn k (reply k pid call)
told_by_either k pid call (inl is) = subst (λ c. IsToldIn k (reply k pid c)) (sym is) (root_is_told k pid)
told_by_either k pid call (inr is) = subst (λ c. IsToldIn k (reply k pid c)) (sym is) (root_is_told_by_lstat k pid)

-- so each status of that path that is answered in a run tells the run's own root
told_by_stats : (root : ℕ) (k : Kernel) → HasRoot root k → (items : List Item) (after : Kernel) → Run k items after → AllByRecursion (λ it. IsStatOfRoot it.call → IfOk it.answer (λ _. TellsRoot root it.call it.answer)) items
told_by_stats root k h [] after run = tt
told_by_stats root k h (it ∷ items) after run =
    let step = run.1 in
    let mid : HasRoot root run.0 = subst (HasRoot root) (sym step.changed) (chosen.tidying_keeps root (all_applied it.chosen (edits k it.pid it.call) k) (chosen.edits_keep root it.chosen k (edits k it.pid it.call) h)) in (
      λ is. weaken it.answer (subst (IsToldIn k) (sym step.replied) (told_by_either k it.pid it.call is)) (λ _ told. record {
        is_stat = is;
        rights = rights_of k k.root;
        tells = told ∙ ap (λ n. Ok (Stated (record { kind = A_directory; num = n; size = 0; links = 1; rights = rights_of k k.root }))) h.is;
      }),
      told_by_stats root run.0 mid items after run.2,
    )

pub stats_tell_the_root : (root : ℕ) (setup : Setup) (items : List Item) (after : Kernel) → Run (start root setup) items after → AllByRecursion (λ it. IsStatOfRoot it.call → IfOk it.answer (λ _. TellsRoot root it.call it.answer)) items
stats_tell_the_root root setup items after run = told_by_stats root (start root setup) (root_at_start root setup) items after run

pub stat_tells_the_root : StatTellsTheRoot
stat_tells_the_root root setup items after run =
    tells root (start root setup) (record { slots = slots_at_start root setup; root_there = root_at_start root setup; apart = apart_at_start root setup }) items after run
