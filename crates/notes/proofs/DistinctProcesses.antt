-- Changes of processes in which each process stands once.
use Rattle.std.proofs.Common.{◌≡◌, ◌≢◌, ℕ, zero, suc, ◌<◌, [], ◌∷◌, ◌++◌, length, get_or, set, take, Some, None, refl, sym, ap, subst, ◌∙◌, arith}
use Rattle.model.specs.FiniteMap.{empty}
use Rattle.fdtable.specs.Patches.{Given}
use Rattle.notes.specs.Patches.{kept_at}
use Rattle.notes.specs.Openings.{AreOnce}
use Rattle.notes.proofs.SortedKeys.{first_kept, later_kept}
use Rattle.notes.proofs.SlotLemmas.{Entries, pushed_other, something}

-- the process of a place, and what is kept there
abbrev pub key_at : Entries → ℕ → ℕ
key_at es i = (get_or es i (0, empty)).0

abbrev pub patch_at : Entries → ℕ → Given
patch_at es i = (get_or es i (0, empty)).1

apart : (e : ℕ × Given) (es : Entries) (q : ℕ) → kept_at (e ∷ es) q ≡ None → q ≢ e.0
apart e es q none same = something (kept_at (e ∷ es) q) e.1 (ap (kept_at (e ∷ es)) same ∙ first_kept e.0 e.1 es) none

absent_rest : (e : ℕ × Given) (es : Entries) (q : ℕ) → kept_at (e ∷ es) q ≡ None → kept_at es q ≡ None
absent_rest e es q none = sym (later_kept e.0 e.1 es q (apart e es q none)) ∙ none

-- other changes of a process in the place of its own
absent_set : (es : Entries) (q i k : ℕ) (w : Given) → key_at es i ≡ k → kept_at es q ≡ None → kept_at (set es i (k, w)) q ≡ None
absent_set [] q i k w is none = refl
absent_set (e ∷ es) q zero k w is none = later_kept k w es q (λ same. apart e es q none (same ∙ sym is)) ∙ absent_rest e es q none
absent_set (e ∷ es) q (suc i) k w is none = later_kept e.0 e.1 (set es i (k, w)) q (apart e es q none) ∙ absent_set es q i k w is (absent_rest e es q none)

pub once_set : (es : Entries) (i k : ℕ) (w : Given) → key_at es i ≡ k → AreOnce es → AreOnce (set es i (k, w))
once_set [] i k w is once = once
once_set (e ∷ es) zero k w is once = (subst (λ k. kept_at es k ≡ None) is once.0, once.1)
once_set (e ∷ es) (suc i) k w is once = (absent_set es e.0 i k w is once.0, once_set es i k w is once.1)

-- changes of one process more
pub once_pushed : (es : Entries) (pid : ℕ) (w : Given) → kept_at es pid ≡ None → AreOnce es → AreOnce (es ++ (pid, w) ∷ [])
once_pushed [] pid w none once = (refl, tt)
once_pushed (e ∷ es) pid w none once =
    (pushed_other es pid w e.0 (λ same. apart e es pid none (sym same)) ∙ once.0, once_pushed es pid w (absent_rest e es pid none) once.1)

-- what stands at a place is what is kept of its process
pub kept_its : (es : Entries) (i : ℕ) → AreOnce es → i < length es → kept_at es (key_at es i) ≡ Some (patch_at es i)
kept_its [] i once low = absurd (omega arith)
kept_its (e ∷ es) zero once low = first_kept e.0 e.1 es
kept_its (e ∷ es) (suc i) once low =
    let rest : kept_at es (key_at es i) ≡ Some (patch_at es i) = kept_its es i once.1 (omega arith) in
    later_kept e.0 e.1 es (key_at es i) (λ same. something (kept_at es (key_at es i)) (patch_at es i) rest (ap (kept_at es) same ∙ once.0)) ∙ rest

-- and it stands nowhere before
pub none_ahead : (es : Entries) (i : ℕ) → AreOnce es → i < length es → kept_at (take i es) (key_at es i) ≡ None
none_ahead [] i once low = absurd (omega arith)
none_ahead (e ∷ es) zero once low = refl
none_ahead (e ∷ es) (suc i) once low =
    let rest : kept_at es (key_at es i) ≡ Some (patch_at es i) = kept_its es i once.1 (omega arith) in
    later_kept e.0 e.1 (take i es) (key_at es i) (λ same. something (kept_at es (key_at es i)) (patch_at es i) rest (ap (kept_at es) same ∙ once.0))
    ∙ none_ahead es i once.1 (omega arith)
