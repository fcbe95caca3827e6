-- Events that are noted one after the other.
use Rattle.std.proofs.Common.{◌≡◌, ◌≤◌, ℕ, ◌∷◌, [], sym, ap, subst, ◌∙◌}
use Rattle.view_times.specs.declared.event.Event.{Event}
use Rattle.view_times.specs.Kept.{Kept, room_of}
use Rattle.mount_requests.specs.Seen.{Seen}
use Rattle.mount_requests.specs.Times.{Events, noted_in, view_at}

-- one, and others behind it
pub noted_then : (s u later : Seen) (view inode : ℕ) (event : Event) (others : Events) → u ≡ noted_in view ((inode, event) ∷ []) s → later ≡ noted_in view others u → later ≡ noted_in view ((inode, event) ∷ others) s
noted_then s u later view inode event others one rest = rest ∙ ap (λ (v : Seen). noted_in view others v) one

-- in the view of a node
pub noted_at : (s later : Seen) (node view there : ℕ) (events : Events) → view ≡ there → later ≡ noted_in view events s → later ≡ noted_in there events s
noted_at s later node view there events is known = known ∙ ap (λ (v : ℕ). noted_in v events s) is

-- ---- room

-- there is room still, by other names of what is known, of the table and of the node
pub room_for : (s u : Seen) (t k : Kept) (node there : ℕ) → u ≡ s → k ≡ t → there ≡ node → 4 ≤ room_of t (view_at s node) → 4 ≤ room_of k (view_at u there)
room_for s u t k node there same kept is h =
    subst (λ (v : Seen). 4 ≤ room_of k (view_at v there)) (sym same)
    (subst (λ (n : ℕ). 4 ≤ room_of k (view_at s n)) (sym is) (subst (λ (x : Kept). 4 ≤ room_of x (view_at s node)) (sym kept) h))
