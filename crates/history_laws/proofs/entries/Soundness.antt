-- Each right entry keeps the moment sound, and commits nothing or calls of its process.
use Rattle.std.proofs.Common.{◌≡◌, ◌+◌, List, [], ◌∷◌, refl, sym, ◌∙◌, ap, true, false, Bool, ◌⊎◌, inl, inr}
use Rattle.model.specs.State.{Kernel}
use Rattle.model.specs.Changes.{tidy}
use Rattle.model.specs.Entries.{Begin, Begun, Entry, Executed}
use Rattle.model.specs.Forgetting.{Limit}
use Rattle.model.specs.Moments.{Status, gone, idle, live, doomed, Moment, calls_of, calls_at, settled, own_next, next, is_in}
use Rattle.model.specs.Legal.{Alone, Right}
use Rattle.call_laws.specs.CallLaws.{CallLaws}
use Rattle.history_laws.proofs.lists.UntidiedRuns.{loose, Goes}
use Rattle.history_laws.proofs.entries.Moments.{Sound, own_after, simple, phase_is, phase_own, nothing_run}
use Rattle.history_laws.proofs.entries.Kinds.{Kind, Changes, Pushes, Commits, Begins, Settles, Rests, kind, phase_after}
use Rattle.history_laws.proofs.entries.ExecutedCalls.{changes, pushes, commits, executed, plain_goes, plain_same, plain_idle, pushed_same, end_same}

settled_empty : (s : Status) (again : Bool) → calls_of (settled s again) ≡ []
settled_empty (live flags age calls) true = refl
settled_empty (live flags age calls) false = refl
settled_empty (doomed cause flags age) true = refl
settled_empty (doomed cause flags age) false = refl
settled_empty gone again = refl
settled_empty idle again = refl

pub sound_next : (Well : Kernel → Type 0) (laws : CallLaws Well) (limit : Limit) (m : Moment) (e : Entry) → Right limit m e → Sound Well m → Sound Well (next m e)
sound_next Well laws limit m e right s = by (kind limit m e right) where
  -- the calls of an entry's process, by the phase that it has then
  calls_then : (st : Status) → Alone e → (next m e).phase e.pid ≡ st → calls_of (own_after m e) ≡ calls_of st
  calls_then st alone is = ap calls_of (sym (phase_own m e (ap (is_in e.pid) alone.doomed)) ∙ is)

  by : Kind m e → Sound Well (next m e)
  by (Changes call is_s is_op taken) = changes Well laws m e call s taken is_s is_op
  by (Pushes flags age calls call is_s is_op inside taken) = pushes Well laws m e call s taken flags age calls is_s is_op inside
  by (Commits flags age calls is_s is_op is_reply alone) = commits Well laws m e flags age calls s is_s is_op is_reply alone
  by (Begins flags is_s is_op is_reply alone) =
      let later = phase_after m e idle (Begin flags) Begun (phase_is m e.pid idle is_s (λ h. absurd cc)) is_op is_reply alone in
      simple m e Well s alone.doomed (nothing_run m e idle (Begin flags) Begun is_s is_op is_reply alone.chosen refl) (inl (calls_then (live flags (m.entries + 1) []) alone later))
  by (Settles st again is_phase holds some left) = simple m e Well s left.alone.doomed left.committed (inl (calls_then (settled st again) left.alone left.phase ∙ settled_empty st again))
  by (Rests some left) = simple m e Well s left.alone.doomed left.committed (inr (calls_then (m.phase e.pid) left.alone left.phase))

-- calls of its process that an entry commits, which is idle after it
pub record CommitsCalls (Well : Kernel → Type 0) (m : Moment) (e : Entry) : Type 0 where
  pub calls : List Executed
  pub goes : Goes Well m.committed e.pid calls
  pub next_state : (next m e).committed ≡ tidy (loose e.pid calls m.committed)
  pub idle_then : (next m e).phase e.pid ≡ idle

pub commits_or_not : (Well : Kernel → Type 0) (laws : CallLaws Well) (limit : Limit) (m : Moment) (e : Entry) → Right limit m e → Sound Well m → ((next m e).committed ≡ m.committed) ⊎ CommitsCalls Well m e
commits_or_not Well laws limit m e right s = by (kind limit m e right) where
  by : Kind m e → ((next m e).committed ≡ m.committed) ⊎ CommitsCalls Well m e
  by (Changes call is_s is_op taken) = inr (record {
    calls = executed m e call taken ∷ [];
    goes = plain_goes Well laws m e call s taken is_s;
    next_state = plain_same m e call taken is_s is_op;
    idle_then = plain_idle m e call taken is_s;
  })
  by (Pushes flags age calls call is_s is_op inside taken) = inl (pushed_same m e call taken flags age calls is_s is_op)
  by (Commits flags age calls is_s is_op is_reply alone) = inr (record {
    calls = calls_at m e.pid;
    goes = s.lists.goes e.pid;
    next_state = end_same Well laws m e flags age calls s is_s is_op is_reply;
    idle_then = phase_own m e (ap (is_in e.pid) alone.doomed) ∙ ap (λ x. own_next (m.entries + 1) (m.phase e.pid) e.op x e.chosen) is_reply;
  })
  by (Begins flags is_s is_op is_reply alone) = inl (nothing_run m e idle (Begin flags) Begun is_s is_op is_reply alone.chosen refl)
  by (Settles st again is_phase holds some left) = inl left.committed
  by (Rests some left) = inl left.committed
