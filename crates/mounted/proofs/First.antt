-- A kernel with a process of each priority, of which nothing was asked yet, is sound.
use Rattle.std.proofs.Common.{◌≡◌, ℕ, zero, suc, ◌+◌, ◌<◌, arith, List, [], ◌∷◌, refl, sym, ap, subst, ◌∙◌}
use Rattle.std.specs.Prelude.{Some, None}
use Rattle.std.specs.Ordering.{nat_cmp}
use Rattle.model.specs.Changes.{process_of}
use Rattle.model.specs.FiniteMap as map
use Rattle.model.specs.Moments.{after, start}
use Rattle.model.specs.State.{Kernel}
use Rattle.ids.specs.declared.entry.Entry.{Entry}
use Rattle.machine.specs.Shown.{Kept, Shown, setup_of}
use Rattle.course.specs.Hands.{made_in}
use Rattle.mount_requests.specs.Seen.{IsUnknown, Seen}
use Rattle.mounted.specs.Sound.{IsSound}
use Rattle.model.specs.Limits.{Bounds}

abbrev levels : List ℕ
levels = 0 ∷ 1 ∷ 2 ∷ 3 ∷ 4 ∷ 5 ∷ 6 ∷ 7 ∷ []

abbrev first_state : Bounds → Kernel
first_state bounds = start 0 (record { priorities = levels; bounds = bounds })

state_is : (v : Shown) → Kept v → v.log.entries ≡ [] → v.log.priorities ≡ levels → v.state ≡ first_state v.log.bounds
state_is v kept none eight =
    kept.state
    ∙ ap (λ (es : List Entry). (after 0 (setup_of v.log) es).committed) none
    ∙ ap (λ (ps : List ℕ). start 0 (record { priorities = ps; bounds = v.log.bounds })) eight

-- the first process of each priority
first_levels : (bounds : Bounds) (level : ℕ) → level < 8 → (process_of (first_state bounds) (level + 1)).priority ≡ level
unfolding map.computes
first_levels bounds zero low = refl
first_levels bounds (suc zero) low = refl
first_levels bounds (suc (suc zero)) low = refl
first_levels bounds (suc (suc (suc zero))) low = refl
first_levels bounds (suc (suc (suc (suc zero)))) low = refl
first_levels bounds (suc (suc (suc (suc (suc zero))))) low = refl
first_levels bounds (suc (suc (suc (suc (suc (suc zero)))))) low = refl
first_levels bounds (suc (suc (suc (suc (suc (suc (suc zero))))))) low = refl
first_levels bounds (suc (suc (suc (suc (suc (suc (suc (suc level)))))))) low = absurd (omega (arith, low))

nothing : {X : Type 0} {m : map.FinMap nat_cmp X} (q : ℕ) (x : X) → m ≡ map.empty → map.get m q ≡ Some x → ⊥
nothing {X} {m} q x none there = let is : None ≡ Some x = sym (map.get-empty nat_cmp q) ∙ (sym (ap (λ (n : map.FinMap nat_cmp X). map.get n q) none) ∙ there) in cc

pub first_sound : (s : Seen) (v : Shown) → IsUnknown s → Kept v → v.log.entries ≡ [] → v.log.priorities ≡ levels → IsSound s v
first_sound s v unknown kept none eight =
    let is = state_is v kept none eight in record {
      views = λ number view there. absurd (nothing number view unknown.views there);
      levels = λ number view there. absurd (nothing number view unknown.views there);
      made = λ pid role there. absurd (nothing pid role unknown.roles there);
      waiting = λ pid level there. absurd (nothing pid _ unknown.roles there);
      numbers = λ number view there. absurd (nothing number view unknown.views there);
      first = (let made : made_in v ≡ 8 = ap (λ (k : Kernel). k.made) is in omega (arith, made));
      levels_first = λ level low. ap (λ (k : Kernel). (process_of k (level + 1)).priority) is ∙ first_levels v.log.bounds level low;
    }

pub first_at : (s : Seen) {v w : Shown} → w ≡ v → IsUnknown s → Kept v → v.log.entries ≡ [] → v.log.priorities ≡ levels → IsSound s w
first_at s {v} same unknown kept none eight = subst (λ (x : Shown). IsSound s x) (sym same) (first_sound s v unknown kept none eight)
