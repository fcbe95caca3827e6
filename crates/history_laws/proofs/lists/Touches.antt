-- Aspects that touches leave alone, and states that are alike in what is touched.
use Rattle.std.proofs.Common.{◌≡◌, ◌≢◌, ℕ, List, [], ◌∷◌, refl, sym, subst, true, false, Bool, inl, inr, eqb, map}
use Rattle.std.specs.Prelude.{◌||◌, ◌&&◌}
use Rattle.std.specs.List.{AllByRecursion}
use Rattle.std.proofs.lemmas.Bool.{and_from, both_ways, false≢true, eq-eqb}
use Rattle.model.specs.State.{Name, Kernel}
use Rattle.model.specs.Aspects.{Aspect, Entry, Names, Size, Block, Links, Ends, Offset, Front, Back, Target, Rights, Keeps, KeepsAll}
use Rattle.model.specs.Calls.{Call}
use Rattle.model.specs.Paths.{same_name}
use Rattle.model.specs.Steps.{Touch, reads, writes, touches}
use Rattle.call_laws.specs.Objects.{LeavesAlone}
use Rattle.model.specs.Clashes.{same_aspect, clash, any_clash, clashes}
use Rattle.history_laws.proofs.Membership.{In, In-left, In-right, In-cases, In-map, all_from, all_mapped, none_passes}

same_name_refl : (x : Name) → same_name x x ≡ true
same_name_refl [] = refl
same_name_refl (b ∷ x) = and_from (eqb b b) (same_name x x) (eq-eqb b b refl) (same_name_refl x)

pub same_aspect_refl : (a : Aspect) → same_aspect a a ≡ true
same_aspect_refl (Entry d x) = and_from (eqb d d) (same_name x x) (eq-eqb d d refl) (same_name_refl x)
same_aspect_refl (Names d) = eq-eqb d d refl
same_aspect_refl (Size n) = eq-eqb n n refl
same_aspect_refl (Block n i) = and_from (eqb n n) (eqb i i) (eq-eqb n n refl) (eq-eqb i i refl)
same_aspect_refl (Links n) = eq-eqb n n refl
same_aspect_refl (Ends p) = eq-eqb p p refl
same_aspect_refl (Offset d) = eq-eqb d d refl
same_aspect_refl (Front p) = eq-eqb p p refl
same_aspect_refl (Back p) = eq-eqb p p refl
same_aspect_refl (Target n) = eq-eqb n n refl
same_aspect_refl (Rights n) = eq-eqb n n refl

abbrev pub written : Aspect → Touch
written a = record { aspect = a; write = true }

abbrev pub read : Aspect → Touch
read a = record { aspect = a; write = false }

differ : (w a : Aspect) (b : Bool) → clash (written w) (record { aspect = a; write = b }) ≡ false → w ≢ a
differ w a b h e = both_ways (same_aspect w a) (first (same_aspect w a) _ h) (subst (λ x. same_aspect w x ≡ true) e (same_aspect_refl w)) where
  first : (p q : Bool) → ((p && true) || q) ≡ false → p ≡ false
  first true q h = absurd (false≢true (sym h))
  first false q h = refl

-- whether a touch is no write of all names
abbrev pub IsPlain : Touch → Type 0
IsPlain t = (d : ℕ) → t.aspect ≡ Names d → t.write ≡ false

names_differ : (d e : ℕ) (x : Name) → clash (written (Entry d x)) (read (Names e)) ≡ false → d ≢ e
names_differ d e x h same = both_ways (eqb e d) h (eq-eqb e d (sym same))

by_aspects : (w a : Aspect) (b : Bool) → ((d : ℕ) → a ≡ Names d → b ≡ false) → clash (written w) (record { aspect = a; write = b }) ≡ false → LeavesAlone w a
by_aspects (Entry d x) (Names e) b plain h = names_differ d e x (subst (λ c. clash (written (Entry d x)) (record { aspect = Names e; write = c }) ≡ false) (plain e refl) h)
by_aspects w a b plain h = differ w a b h

-- a write that does not clash with a touch leaves its aspect alone
pub leaves_alone : (w : Aspect) (t : Touch) → IsPlain t → clash (written w) t ≡ false → LeavesAlone w t.aspect
leaves_alone w t plain h = by_aspects w t.aspect t.write plain h

-- both states are alike in what is touched
abbrev pub Alike : Kernel → Kernel → List Touch → Type 0
Alike k l ts = (t : Touch) → In t ts → Keeps k l t.aspect

pub reads_alike : (k l : Kernel) (pid : ℕ) (call : Call) → Alike k l (touches k pid call) → KeepsAll k l (reads k pid call)
reads_alike k l pid call h = all_from (Keeps k l) (reads k pid call) (λ a i. h (read a) (In-left (read a) _ _ (In-map read a (reads k pid call) i)))

pub In-write : (k : Kernel) (pid : ℕ) (call : Call) (a : Aspect) → In a (writes k pid call) → In (written a) (touches k pid call)
In-write k pid call a i = In-right (written a) (map read (reads k pid call)) _ (In-map written a (writes k pid call) i)

pub writes_alike : (k l : Kernel) (pid : ℕ) (call : Call) → Alike k l (touches k pid call) → KeepsAll k l (writes k pid call)
writes_alike k l pid call h = all_from (Keeps k l) (writes k pid call) (λ a i. h (written a) (In-write k pid call a i))

-- what holds of all that a call reads and writes holds of its touches
pub of_touches : (P : Aspect → Type 0) (k : Kernel) (pid : ℕ) (call : Call) → AllByRecursion P (reads k pid call) → AllByRecursion P (writes k pid call) → (t : Touch) → In t (touches k pid call) → P t.aspect
of_touches P k pid call r w t i = elim (In-cases t (map read (reads k pid call)) _ i) [
  | inl a ↦ all_mapped (λ (u : Touch). P u.aspect) read (reads k pid call) r t a
  | inr b ↦ all_mapped (λ (u : Touch). P u.aspect) written (writes k pid call) w t b
]

-- no touch of the first clashes with one of the second
abbrev pub NoClash : List Touch → List Touch → Type 0
NoClash ts us = (t u : Touch) → In t ts → In u us → clash t u ≡ false

pub no_clash : (ts us : List Touch) → any_clash ts us ≡ false → NoClash ts us
no_clash ts us none t u h k = none_passes (clash t) us (none_passes (λ t. clashes t us) ts none t h) u k
