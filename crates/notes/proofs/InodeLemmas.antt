-- What is kept of each inode after one change at one number.
use Rattle.std.proofs.Common.{◌≡◌, ◌≢◌, ℕ, ◌==◌, Bool, true, false, cond, List, Option, Some, None, Bor, option_copied, refl, sym, ap, subst, ◌∙◌, eqb-true, eq-eqb, ne_eqb}
use Rattle.std.specs.Option.{is_some}
use Rattle.std.specs.Ordering.{is_eq, nat_cmp}
use Rattle.std.specs.Cmp.{nat_cmp_total, tied_itself}
use Rattle.model.specs.FiniteMap.{nat_cmp-IsAntisymmetric}
use Rattle.model.proofs.Laws.{tie}
use Rattle.call_laws.proofs.Laws.{not_none, true_is_false}
use Rattle.notes.specs.declared.change.InodeChange.{InodeChange}
use Rattle.notes.specs.Patches.{Net, kept_at, net_at, net_of}
use Rattle.notes.specs.Notes.{At, SameInodes}

-- the test of std's map is the test of numbers
pub tests_alike : (num n : ℕ) → is_eq (nat_cmp num n) ≡ (n == num)
tests_alike num n = by_cases (is_eq (nat_cmp num n)) (n == num) refl refl
  where
    by_cases : (a b : Bool) → is_eq (nat_cmp num n) ≡ a → (n == num) ≡ b → a ≡ b
    by_cases true true e f = refl
    by_cases false false e f = refl
    by_cases true false e f = sym (eq-eqb n num (sym (nat_cmp-IsAntisymmetric num n (tie (nat_cmp num n) e)))) ∙ f
    by_cases false true e f = sym e ∙ ap (λ m. is_eq (nat_cmp num m)) (eqb-true n num f) ∙ ap is_eq (tied_itself nat_cmp_total num)

pub some_kept : {X : Type 0} (o : Option X) (c : X) → o ≡ Some c → is_some o ≡ true
some_kept o c is = ap is_some is

pub same_change : (old new : InodeChange) → new ≡ old → net_of (Some new) ≡ net_of (Some old)
same_change old new is = ap (λ (w : InodeChange). net_of (Some w)) is

-- All is kept as before but at one number, which now has this.
module _ (num : ℕ) (w : InodeChange) (old new : List (ℕ × InodeChange)) (is : (n : ℕ) → kept_at new n ≡ cond (is_eq (nat_cmp num n)) (Some w) (kept_at old n)) where
  at_number : kept_at new num ≡ Some w
  at_number = is num ∙ ap (λ b. cond b (Some w) (kept_at old num)) (tests_alike num num ∙ eq-eqb num num refl)

  elsewhere : (m : ℕ) → m ≢ num → kept_at new m ≡ kept_at old m
  elsewhere m away = is m ∙ ap (λ b. cond b (Some w) (kept_at old m)) (tests_alike num m ∙ ne_eqb m num away)

  stay : (m : ℕ) → kept_at old m ≢ None → kept_at new m ≢ None
  stay m there none = by_test (is_eq (nat_cmp num m)) (sym (is m) ∙ none)
    where
      by_test : (b : Bool) → cond b (Some w) (kept_at old m) ≡ None → ⊥
      by_test true e = not_none w e
      by_test false e = there e

  -- what was lent, and is written back
  pub put_back : (c : InodeChange) (R : Net → Net → Type 0) → kept_at old num ≡ Some c → R (net_of (Some c)) (net_of (Some w)) → At num R old new
  put_back c R was h = record {
    here = subst (λ o. R (net_of o) (net_at new num)) (sym was) (subst (λ o. R (net_of (Some c)) (net_of o)) (sym at_number) h);
    others = λ m away. ap net_of (elsewhere m away);
    places = stay;
  }

  pub same_back : (before : Option InodeChange) → kept_at old num ≡ before → net_of (Some w) ≡ net_of before → SameInodes old new
  same_back before was h = record { nets = λ n. by_test n (n == num) refl; places = stay }
    where
      here : net_at new num ≡ net_at old num
      here = ap net_of at_number ∙ h ∙ sym (ap net_of was)

      by_test : (n : ℕ) (b : Bool) → (n == num) ≡ b → net_at new n ≡ net_at old n
      by_test n true e = subst (λ m. net_at new m ≡ net_at old m) (sym (eqb-true n num e)) here
      by_test n false e = ap net_of (is n ∙ ap (λ b. cond b (Some w) (kept_at old n)) (tests_alike num n ∙ e))

-- what is not found is not kept
pub none_kept : {X : Type 0} (o : Option (Bor X)) (kept : Option X) → option_copied o ≡ kept → is_some o ≡ false → kept ≡ None
none_kept None kept is none = sym is
none_kept (Some x) kept is none = absurd (true_is_false none)
