-- The numbers of the blocks into which bytes are written, after one write more.
use Rattle.std.proofs.Common.{◌≡◌, ◌⊎◌, ◌↔◌, ℕ, List, [], ◌++◌, sym, subst, inl, inr, arith}
use Rattle.std.specs.List.{Contains}
use Rattle.std.proofs.lemmas.List.Elements.{Contains-append_cases, Contains-append_left, Contains-append_right}

not_in : (b : ℕ) → Contains [] b → ⊥
not_in b h = omega (arith, h.1)

-- those before and the new ones in one list
pub joined : (old now more : List ℕ) → ((b : ℕ) → Contains now b ↔ (Contains old b ⊎ Contains more b)) → (b : ℕ) → Contains now b ↔ Contains (old ++ more) b
joined old now more is b = (
  λ h. elim ((is b).0 h) [ inl x ↦ Contains-append_left old more b x | inr y ↦ Contains-append_right old more b y ],
  λ h. (is b).1 (Contains-append_cases old more b h),
)

-- where there were none before
pub first_ones : (old now more : List ℕ) → old ≡ [] → ((b : ℕ) → Contains now b ↔ (Contains old b ⊎ Contains more b)) → (b : ℕ) → Contains now b ↔ Contains more b
first_ones old now more none is b = (
  λ h. elim ((is b).0 h) [ inl x ↦ absurd (not_in b (subst (λ xs. Contains xs b) none x)) | inr y ↦ y ],
  λ h. (is b).1 (inr h),
)

pub behind_none : (old now more : List ℕ) → old ≡ [] → ((b : ℕ) → Contains now b ↔ Contains more b) → (b : ℕ) → Contains now b ↔ Contains (old ++ more) b
behind_none old now more none is b = subst (λ xs. Contains now b ↔ Contains (xs ++ more) b) (sym none) (is b)
