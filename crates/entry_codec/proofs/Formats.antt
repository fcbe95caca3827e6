-- What a form is: what is read is what the bytes are the form of, and what has a form is read from it,
-- whatever stands behind. Forms of one to five fields, one after the other, and of variants.
use Rattle.std.proofs.Common.{◌≡◌, ℕ, suc, ◌<◌, Bool, true, false, cond, eqb, List, [], ◌∷◌, ◌++◌, get_or, Result, Ok, Err, refl, sym, ap, subst, ◌∙◌, append_assoc}
use Rattle.std.proofs.lemmas.Bool.{eqb-true}
use Rattle.entry_codec.specs.declared.fault.Fault.{Fault}
use Rattle.entry_codec.specs.Reading.{Read, ◌>>=◌, one, two, three, four, five, byte_at}

abbrev pub IsBytes : List ℕ → Type 0
IsBytes bytes = (i : ℕ) → get_or bytes i 0 < 256

-- what was taken from the front, and what is left
pub record Takes (bytes text rest : List ℕ) : Type 0 where
  pub parts : bytes ≡ text ++ rest
  pub rest_fits : IsBytes rest

pub Takes-then : (a x b y c : List ℕ) → Takes a x b → Takes b y c → Takes a (x ++ y) c
Takes-then a x b y c p q = record {
  parts = p.parts ∙ ap (λ (t : List ℕ). x ++ t) q.parts ∙ sym (append_assoc x y c);
  rest_fits = q.rest_fits;
}

pub record IsFormat {A : Type 0} (form : A → List ℕ) (Fits : A → Type 0) (read : List ℕ → Read A) : Type 0 where
  pub takes : (bytes : List ℕ) (x : A × List ℕ) → IsBytes bytes → read bytes ≡ Ok x → Takes bytes (form x.0) x.1 × Fits x.0
  pub again : (x : A) (rest : List ℕ) → Fits x → read (form x ++ rest) ≡ Ok (x, rest)

-- ---- steps of reading

-- the value of a step that did not fail
pub bind_ok : {A B : Type 0} (r : Result A Fault) (f : A → Result B Fault) (y : B) → (r >>= f) ≡ Ok y → (x : A) × (r ≡ Ok x) × (f x ≡ Ok y)
bind_ok (Ok x) f y e = (x, refl, e)
bind_ok (Err d) f y e = absurd cc

-- a test that did not fail
pub guard_ok : {A : Type 0} (b : Bool) (d : Fault) (x y : A) → cond b (Err d) (Ok x) ≡ Ok y → (b ≡ false) × (x ≡ y)
guard_ok true d x y e = absurd cc
guard_ok false d x y e = (refl, cc)

-- likewise, where the test has to hold
pub holds_ok : {A : Type 0} (b : Bool) (d : Fault) (x y : A) → cond b (Ok x) (Err d) ≡ Ok y → (b ≡ true) × (x ≡ y)
holds_ok true d x y e = (refl, cc)
holds_ok false d x y e = absurd cc

abbrev pub done : {A : Type 0} → A → Result A Fault
done x = Ok x

pub ok_is : {A : Type 0} (x y : A) → done x ≡ done y → x ≡ y
ok_is x y e = cc

tested : {X : Type 0} (b : Bool) (first other : Result X Fault) (x : X) (P : Type 0) → cond b first other ≡ Ok x → (b ≡ true → first ≡ Ok x → P) → (other ≡ Ok x → P) → P
tested true first other x P e same else_it = same refl e
tested false first other x P e same else_it = else_it e

-- which of two it was that did not fail
pub choose : {X : Type 0} (n k : ℕ) (first other : Result X Fault) (x : X) (P : Type 0) → cond (eqb n k) first other ≡ Ok x → (n ≡ k → first ≡ Ok x → P) → (other ≡ Ok x → P) → P
choose n k first other x P e same else_it = tested (eqb n k) first other x P e (λ t. same (eqb-true n k t)) else_it

-- ---- fields one after the other: what is taken

pub one_takes : {A X : Type 0} {f : A → List ℕ} {F : A → Type 0} {r : List ℕ → Read A} → IsFormat f F r
    → (make : A → X) (bytes : List ℕ) (x : X × List ℕ) (P : X × List ℕ → Type 0) → IsBytes bytes → one make r bytes ≡ Ok x
    → ((a : A) (rest : List ℕ) → Takes bytes (f a) rest → F a → P (make a, rest)) → P x
one_takes {A = A} {X = X} {r = r} fa make bytes x P fits e use_it =
    let a = bind_ok (r bytes) (λ a. Ok (make a.0, a.1)) x e in
    let t = fa.takes bytes a.0 fits a.1 in
    let made : X × List ℕ = (make a.0.0, a.0.1) in
    subst P (ok_is made x a.2) (use_it a.0.0 a.0.1 t.0 t.1)

pub two_takes : {A B X : Type 0} {f : A → List ℕ} {F : A → Type 0} {r : List ℕ → Read A} {g : B → List ℕ} {G : B → Type 0} {s : List ℕ → Read B}
    → IsFormat f F r → IsFormat g G s
    → (make : A → B → X) (bytes : List ℕ) (x : X × List ℕ) (P : X × List ℕ → Type 0) → IsBytes bytes → two make r s bytes ≡ Ok x
    → ((a : A) (b : B) (rest : List ℕ) → Takes bytes (f a ++ g b) rest → F a → G b → P (make a b, rest)) → P x
two_takes {X = X} {f = f} {r = r} {g = g} {s = s} fa fb make bytes x P fits e use_it =
    let a = bind_ok (r bytes) (λ a. s a.1 >>= λ b. Ok (make a.0 b.0, b.1)) x e in
    let b = bind_ok (s a.0.1) (λ b. Ok (make a.0.0 b.0, b.1)) x a.2 in
    let t = fa.takes bytes a.0 fits a.1 in
    let u = fb.takes a.0.1 b.0 t.0.rest_fits b.1 in
    let both = Takes-then bytes (f a.0.0) a.0.1 (g b.0.0) b.0.1 t.0 u.0 in
    let made : X × List ℕ = (make a.0.0 b.0.0, b.0.1) in
    subst P (ok_is made x b.2) (use_it a.0.0 b.0.0 b.0.1 both t.1 u.1)

pub three_takes : {A B C X : Type 0} {f : A → List ℕ} {F : A → Type 0} {r : List ℕ → Read A} {g : B → List ℕ} {G : B → Type 0} {s : List ℕ → Read B} {h : C → List ℕ} {H : C → Type 0} {t : List ℕ → Read C}
    → IsFormat f F r → IsFormat g G s → IsFormat h H t
    → (make : A → B → C → X) (bytes : List ℕ) (x : X × List ℕ) (P : X × List ℕ → Type 0) → IsBytes bytes → three make r s t bytes ≡ Ok x
    → ((a : A) (b : B) (c : C) (rest : List ℕ) → Takes bytes ((f a ++ g b) ++ h c) rest → F a → G b → H c → P (make a b c, rest)) → P x
three_takes {X = X} {f = f} {r = r} {g = g} {s = s} {h = h} {t = t} fa fb fc make bytes x P fits e use_it =
    let a = bind_ok (r bytes) (λ a. s a.1 >>= λ b. t b.1 >>= λ c. Ok (make a.0 b.0 c.0, c.1)) x e in
    let b = bind_ok (s a.0.1) (λ b. t b.1 >>= λ c. Ok (make a.0.0 b.0 c.0, c.1)) x a.2 in
    let c = bind_ok (t b.0.1) (λ c. Ok (make a.0.0 b.0.0 c.0, c.1)) x b.2 in
    let ta = fa.takes bytes a.0 fits a.1 in
    let tb = fb.takes a.0.1 b.0 ta.0.rest_fits b.1 in
    let tc = fc.takes b.0.1 c.0 tb.0.rest_fits c.1 in
    let ab = Takes-then bytes (f a.0.0) a.0.1 (g b.0.0) b.0.1 ta.0 tb.0 in
    let abc = Takes-then bytes (f a.0.0 ++ g b.0.0) b.0.1 (h c.0.0) c.0.1 ab tc.0 in
    let made : X × List ℕ = (make a.0.0 b.0.0 c.0.0, c.0.1) in
    subst P (ok_is made x c.2) (use_it a.0.0 b.0.0 c.0.0 c.0.1 abc ta.1 tb.1 tc.1)

pub four_takes : {A B C D X : Type 0} {f : A → List ℕ} {F : A → Type 0} {r : List ℕ → Read A} {g : B → List ℕ} {G : B → Type 0} {s : List ℕ → Read B} {h : C → List ℕ} {H : C → Type 0} {t : List ℕ → Read C} {i : D → List ℕ} {I : D → Type 0} {u : List ℕ → Read D}
    → IsFormat f F r → IsFormat g G s → IsFormat h H t → IsFormat i I u
    → (make : A → B → C → D → X) (bytes : List ℕ) (x : X × List ℕ) (P : X × List ℕ → Type 0) → IsBytes bytes → four make r s t u bytes ≡ Ok x
    → ((a : A) (b : B) (c : C) (d : D) (rest : List ℕ) → Takes bytes (((f a ++ g b) ++ h c) ++ i d) rest → F a → G b → H c → I d → P (make a b c d, rest)) → P x
four_takes {X = X} {f = f} {r = r} {g = g} {s = s} {h = h} {t = t} {i = i} {u = u} fa fb fc fd make bytes x P fits e use_it =
    let a = bind_ok (r bytes) (λ a. s a.1 >>= λ b. t b.1 >>= λ c. u c.1 >>= λ d. Ok (make a.0 b.0 c.0 d.0, d.1)) x e in
    let b = bind_ok (s a.0.1) (λ b. t b.1 >>= λ c. u c.1 >>= λ d. Ok (make a.0.0 b.0 c.0 d.0, d.1)) x a.2 in
    let c = bind_ok (t b.0.1) (λ c. u c.1 >>= λ d. Ok (make a.0.0 b.0.0 c.0 d.0, d.1)) x b.2 in
    let d = bind_ok (u c.0.1) (λ d. Ok (make a.0.0 b.0.0 c.0.0 d.0, d.1)) x c.2 in
    let ta = fa.takes bytes a.0 fits a.1 in
    let tb = fb.takes a.0.1 b.0 ta.0.rest_fits b.1 in
    let tc = fc.takes b.0.1 c.0 tb.0.rest_fits c.1 in
    let td = fd.takes c.0.1 d.0 tc.0.rest_fits d.1 in
    let ab = Takes-then bytes (f a.0.0) a.0.1 (g b.0.0) b.0.1 ta.0 tb.0 in
    let abc = Takes-then bytes (f a.0.0 ++ g b.0.0) b.0.1 (h c.0.0) c.0.1 ab tc.0 in
    let abcd = Takes-then bytes ((f a.0.0 ++ g b.0.0) ++ h c.0.0) c.0.1 (i d.0.0) d.0.1 abc td.0 in
    let made : X × List ℕ = (make a.0.0 b.0.0 c.0.0 d.0.0, d.0.1) in
    subst P (ok_is made x d.2) (use_it a.0.0 b.0.0 c.0.0 d.0.0 d.0.1 abcd ta.1 tb.1 tc.1 td.1)

pub five_takes : {A B C D E X : Type 0} {f : A → List ℕ} {F : A → Type 0} {r : List ℕ → Read A} {g : B → List ℕ} {G : B → Type 0} {s : List ℕ → Read B} {h : C → List ℕ} {H : C → Type 0} {t : List ℕ → Read C} {i : D → List ℕ} {I : D → Type 0} {u : List ℕ → Read D} {j : E → List ℕ} {J : E → Type 0} {v : List ℕ → Read E}
    → IsFormat f F r → IsFormat g G s → IsFormat h H t → IsFormat i I u → IsFormat j J v
    → (make : A → B → C → D → E → X) (bytes : List ℕ) (x : X × List ℕ) (P : X × List ℕ → Type 0) → IsBytes bytes → five make r s t u v bytes ≡ Ok x
    → ((a : A) (b : B) (c : C) (d : D) (e : E) (rest : List ℕ) → Takes bytes ((((f a ++ g b) ++ h c) ++ i d) ++ j e) rest → F a → G b → H c → I d → J e → P (make a b c d e, rest)) → P x
five_takes {X = X} {f = f} {r = r} {g = g} {s = s} {h = h} {t = t} {i = i} {u = u} {j = j} {v = v} fa fb fc fd fe make bytes x P fits eq use_it =
    let a = bind_ok (r bytes) (λ a. s a.1 >>= λ b. t b.1 >>= λ c. u c.1 >>= λ d. v d.1 >>= λ e. Ok (make a.0 b.0 c.0 d.0 e.0, e.1)) x eq in
    let b = bind_ok (s a.0.1) (λ b. t b.1 >>= λ c. u c.1 >>= λ d. v d.1 >>= λ e. Ok (make a.0.0 b.0 c.0 d.0 e.0, e.1)) x a.2 in
    let c = bind_ok (t b.0.1) (λ c. u c.1 >>= λ d. v d.1 >>= λ e. Ok (make a.0.0 b.0.0 c.0 d.0 e.0, e.1)) x b.2 in
    let d = bind_ok (u c.0.1) (λ d. v d.1 >>= λ e. Ok (make a.0.0 b.0.0 c.0.0 d.0 e.0, e.1)) x c.2 in
    let e = bind_ok (v d.0.1) (λ e. Ok (make a.0.0 b.0.0 c.0.0 d.0.0 e.0, e.1)) x d.2 in
    let ta = fa.takes bytes a.0 fits a.1 in
    let tb = fb.takes a.0.1 b.0 ta.0.rest_fits b.1 in
    let tc = fc.takes b.0.1 c.0 tb.0.rest_fits c.1 in
    let td = fd.takes c.0.1 d.0 tc.0.rest_fits d.1 in
    let te = fe.takes d.0.1 e.0 td.0.rest_fits e.1 in
    let ab = Takes-then bytes (f a.0.0) a.0.1 (g b.0.0) b.0.1 ta.0 tb.0 in
    let abc = Takes-then bytes (f a.0.0 ++ g b.0.0) b.0.1 (h c.0.0) c.0.1 ab tc.0 in
    let abcd = Takes-then bytes ((f a.0.0 ++ g b.0.0) ++ h c.0.0) c.0.1 (i d.0.0) d.0.1 abc td.0 in
    let abcde = Takes-then bytes (((f a.0.0 ++ g b.0.0) ++ h c.0.0) ++ i d.0.0) d.0.1 (j e.0.0) e.0.1 abcd te.0 in
    let made : X × List ℕ = (make a.0.0 b.0.0 c.0.0 d.0.0 e.0.0, e.0.1) in
    subst P (ok_is made x e.2) (use_it a.0.0 b.0.0 c.0.0 d.0.0 e.0.0 e.0.1 abcde ta.1 tb.1 tc.1 td.1 te.1)

-- ---- fields one after the other: what was put is read again

pub one_again : {A X : Type 0} {f : A → List ℕ} {F : A → Type 0} {r : List ℕ → Read A} → IsFormat f F r
    → (make : A → X) (a : A) (rest : List ℕ) → F a → one make r (f a ++ rest) ≡ Ok (make a, rest)
one_again {A = A} fa make a rest p = ap (λ (y : Read A). y >>= λ a. Ok (make a.0, a.1)) (fa.again a rest p)

pub two_again : {A B X : Type 0} {f : A → List ℕ} {F : A → Type 0} {r : List ℕ → Read A} {g : B → List ℕ} {G : B → Type 0} {s : List ℕ → Read B}
    → IsFormat f F r → IsFormat g G s
    → (make : A → B → X) (a : A) (b : B) (rest : List ℕ) → F a → G b → two make r s ((f a ++ g b) ++ rest) ≡ Ok (make a b, rest)
two_again {A = A} {f = f} {r = r} {g = g} {s = s} fa fb make a b rest p q =
    ap (λ (bytes : List ℕ). two make r s bytes) (append_assoc (f a) (g b) rest)
    ∙ ap (λ (y : Read A). y >>= λ a. one (make a.0) s a.1) (fa.again a (g b ++ rest) p)
    ∙ one_again fb (make a) b rest q

pub three_again : {A B C X : Type 0} {f : A → List ℕ} {F : A → Type 0} {r : List ℕ → Read A} {g : B → List ℕ} {G : B → Type 0} {s : List ℕ → Read B} {h : C → List ℕ} {H : C → Type 0} {t : List ℕ → Read C}
    → IsFormat f F r → IsFormat g G s → IsFormat h H t
    → (make : A → B → C → X) (a : A) (b : B) (c : C) (rest : List ℕ) → F a → G b → H c → three make r s t (((f a ++ g b) ++ h c) ++ rest) ≡ Ok (make a b c, rest)
three_again {A = A} {f = f} {r = r} {g = g} {s = s} {h = h} {t = t} fa fb fc make a b c rest p q o =
    ap (λ (bytes : List ℕ). three make r s t bytes) (ap (λ (y : List ℕ). y ++ rest) (append_assoc (f a) (g b) (h c)) ∙ append_assoc (f a) (g b ++ h c) rest)
    ∙ ap (λ (y : Read A). y >>= λ a. two (make a.0) s t a.1) (fa.again a ((g b ++ h c) ++ rest) p)
    ∙ two_again fb fc (make a) b c rest q o

pub four_again : {A B C D X : Type 0} {f : A → List ℕ} {F : A → Type 0} {r : List ℕ → Read A} {g : B → List ℕ} {G : B → Type 0} {s : List ℕ → Read B} {h : C → List ℕ} {H : C → Type 0} {t : List ℕ → Read C} {i : D → List ℕ} {I : D → Type 0} {u : List ℕ → Read D}
    → IsFormat f F r → IsFormat g G s → IsFormat h H t → IsFormat i I u
    → (make : A → B → C → D → X) (a : A) (b : B) (c : C) (d : D) (rest : List ℕ) → F a → G b → H c → I d → four make r s t u ((((f a ++ g b) ++ h c) ++ i d) ++ rest) ≡ Ok (make a b c d, rest)
four_again {A = A} {f = f} {r = r} {g = g} {s = s} {h = h} {t = t} {i = i} {u = u} fa fb fc fd make a b c d rest p q o m =
    let front : ((f a ++ g b) ++ h c) ++ i d ≡ f a ++ ((g b ++ h c) ++ i d) = ap (λ (y : List ℕ). y ++ i d) (append_assoc (f a) (g b) (h c)) ∙ append_assoc (f a) (g b ++ h c) (i d) in
    ap (λ (bytes : List ℕ). four make r s t u bytes) (ap (λ (y : List ℕ). y ++ rest) front ∙ append_assoc (f a) ((g b ++ h c) ++ i d) rest)
    ∙ ap (λ (y : Read A). y >>= λ a. three (make a.0) s t u a.1) (fa.again a (((g b ++ h c) ++ i d) ++ rest) p)
    ∙ three_again fb fc fd (make a) b c d rest q o m

pub five_again : {A B C D E X : Type 0} {f : A → List ℕ} {F : A → Type 0} {r : List ℕ → Read A} {g : B → List ℕ} {G : B → Type 0} {s : List ℕ → Read B} {h : C → List ℕ} {H : C → Type 0} {t : List ℕ → Read C} {i : D → List ℕ} {I : D → Type 0} {u : List ℕ → Read D} {j : E → List ℕ} {J : E → Type 0} {v : List ℕ → Read E}
    → IsFormat f F r → IsFormat g G s → IsFormat h H t → IsFormat i I u → IsFormat j J v
    → (make : A → B → C → D → E → X) (a : A) (b : B) (c : C) (d : D) (e : E) (rest : List ℕ) → F a → G b → H c → I d → J e → five make r s t u v (((((f a ++ g b) ++ h c) ++ i d) ++ j e) ++ rest) ≡ Ok (make a b c d e, rest)
five_again {A = A} {f = f} {r = r} {g = g} {s = s} {h = h} {t = t} {i = i} {u = u} {j = j} {v = v} fa fb fc fd fe make a b c d e rest p q o m l =
    let three_of : ((f a ++ g b) ++ h c) ++ i d ≡ f a ++ ((g b ++ h c) ++ i d) = ap (λ (y : List ℕ). y ++ i d) (append_assoc (f a) (g b) (h c)) ∙ append_assoc (f a) (g b ++ h c) (i d) in
    let front : (((f a ++ g b) ++ h c) ++ i d) ++ j e ≡ f a ++ (((g b ++ h c) ++ i d) ++ j e) = ap (λ (y : List ℕ). y ++ j e) three_of ∙ append_assoc (f a) ((g b ++ h c) ++ i d) (j e) in
    ap (λ (bytes : List ℕ). five make r s t u v bytes) (ap (λ (y : List ℕ). y ++ rest) front ∙ append_assoc (f a) (((g b ++ h c) ++ i d) ++ j e) rest)
    ∙ ap (λ (y : Read A). y >>= λ a. four (make a.0) s t u v a.1) (fa.again a ((((g b ++ h c) ++ i d) ++ j e) ++ rest) p)
    ∙ four_again fb fc fd fe (make a) b c d e rest q o m l

-- ---- variants, each behind its number

-- of what is in range whatever it is
abbrev pub Always : {A : Type 0} → A → Type 0
Always x = Unit {0}

-- what was taken with the number in front
pub fronted : (n k : ℕ) (bytes text whole rest : List ℕ) → n ≡ k → whole ≡ k ∷ text → Takes bytes text rest → Takes (n ∷ bytes) whole rest
fronted n k bytes text whole rest is same t = record {
  parts = ap (λ (b : ℕ). b ∷ bytes) is ∙ ap (λ (y : List ℕ). k ∷ y) t.parts ∙ sym (ap (λ (y : List ℕ). y ++ rest) same);
  rest_fits = t.rest_fits;
}

-- a number and what is behind it: a variant that is read is the one that has this form
abbrev pub Took : {X : Type 0} → (X → List ℕ) → (X → Type 0) → ℕ → List ℕ → X × List ℕ → Type 0
Took form Fits n bytes x = Takes (n ∷ bytes) (form x.0) x.1 × Fits x.0

pub variant0 : {X : Type 0} (form : X → List ℕ) (Fits : X → Type 0) (made : X) (k : ℕ) → form made ≡ k ∷ [] → Fits made
    → (n : ℕ) (bytes : List ℕ) (x : X × List ℕ) → IsBytes bytes → n ≡ k → done (made, bytes) ≡ Ok x → Took form Fits n bytes x
variant0 {X = X} form Fits made k same fit n bytes x fits is e =
    let P : X × List ℕ → Type 0 = λ y. Took form Fits n bytes y in
    let nothing : Takes bytes [] bytes = record { parts = refl; rest_fits = fits } in
    let whole : X × List ℕ = (made, bytes) in
    subst P (ok_is whole x e) (fronted n k bytes [] (form made) bytes is same nothing, fit)

pub variant1 : {A X : Type 0} {f : A → List ℕ} {F : A → Type 0} {r : List ℕ → Read A} (form : X → List ℕ) (Fits : X → Type 0)
    → IsFormat f F r → (make : A → X) (k : ℕ) → ((a : A) → form (make a) ≡ k ∷ f a) → ((a : A) → F a → Fits (make a))
    → (n : ℕ) (bytes : List ℕ) (x : X × List ℕ) → IsBytes bytes → n ≡ k → one make r bytes ≡ Ok x → Took form Fits n bytes x
variant1 {X = X} {f = f} form Fits fa make k same fit n bytes x fits is e =
    one_takes fa make bytes x (λ (y : X × List ℕ). Took form Fits n bytes y) fits e
    (λ a rest t p. (fronted n k bytes (f a) (form (make a)) rest is (same a) t, fit a p))

pub variant2 : {A B X : Type 0} {f : A → List ℕ} {F : A → Type 0} {r : List ℕ → Read A} {g : B → List ℕ} {G : B → Type 0} {s : List ℕ → Read B} (form : X → List ℕ) (Fits : X → Type 0)
    → IsFormat f F r → IsFormat g G s → (make : A → B → X) (k : ℕ) → ((a : A) (b : B) → form (make a b) ≡ k ∷ (f a ++ g b)) → ((a : A) (b : B) → F a → G b → Fits (make a b))
    → (n : ℕ) (bytes : List ℕ) (x : X × List ℕ) → IsBytes bytes → n ≡ k → two make r s bytes ≡ Ok x → Took form Fits n bytes x
variant2 {X = X} {f = f} {g = g} form Fits fa fb make k same fit n bytes x fits is e =
    two_takes fa fb make bytes x (λ (y : X × List ℕ). Took form Fits n bytes y) fits e
    (λ a b rest t p q. (fronted n k bytes (f a ++ g b) (form (make a b)) rest is (same a b) t, fit a b p q))

pub variant3 : {A B C X : Type 0} {f : A → List ℕ} {F : A → Type 0} {r : List ℕ → Read A} {g : B → List ℕ} {G : B → Type 0} {s : List ℕ → Read B} {h : C → List ℕ} {H : C → Type 0} {t : List ℕ → Read C} (form : X → List ℕ) (Fits : X → Type 0)
    → IsFormat f F r → IsFormat g G s → IsFormat h H t → (make : A → B → C → X) (k : ℕ) → ((a : A) (b : B) (c : C) → form (make a b c) ≡ k ∷ ((f a ++ g b) ++ h c)) → ((a : A) (b : B) (c : C) → F a → G b → H c → Fits (make a b c))
    → (n : ℕ) (bytes : List ℕ) (x : X × List ℕ) → IsBytes bytes → n ≡ k → three make r s t bytes ≡ Ok x → Took form Fits n bytes x
variant3 {X = X} {f = f} {g = g} {h = h} form Fits fa fb fc make k same fit n bytes x fits is e =
    three_takes fa fb fc make bytes x (λ (y : X × List ℕ). Took form Fits n bytes y) fits e
    (λ a b c rest t p q o. (fronted n k bytes ((f a ++ g b) ++ h c) (form (make a b c)) rest is (same a b c) t, fit a b c p q o))

pub variant4 : {A B C D X : Type 0} {f : A → List ℕ} {F : A → Type 0} {r : List ℕ → Read A} {g : B → List ℕ} {G : B → Type 0} {s : List ℕ → Read B} {h : C → List ℕ} {H : C → Type 0} {t : List ℕ → Read C} {i : D → List ℕ} {I : D → Type 0} {u : List ℕ → Read D} (form : X → List ℕ) (Fits : X → Type 0)
    → IsFormat f F r → IsFormat g G s → IsFormat h H t → IsFormat i I u → (make : A → B → C → D → X) (k : ℕ) → ((a : A) (b : B) (c : C) (d : D) → form (make a b c d) ≡ k ∷ (((f a ++ g b) ++ h c) ++ i d)) → ((a : A) (b : B) (c : C) (d : D) → F a → G b → H c → I d → Fits (make a b c d))
    → (n : ℕ) (bytes : List ℕ) (x : X × List ℕ) → IsBytes bytes → n ≡ k → four make r s t u bytes ≡ Ok x → Took form Fits n bytes x
variant4 {X = X} {f = f} {g = g} {h = h} {i = i} form Fits fa fb fc fd make k same fit n bytes x fits is e =
    four_takes fa fb fc fd make bytes x (λ (y : X × List ℕ). Took form Fits n bytes y) fits e
    (λ a b c d rest t p q o m. (fronted n k bytes (((f a ++ g b) ++ h c) ++ i d) (form (make a b c d)) rest is (same a b c d) t, fit a b c d p q o m))

IsBytes-rest : (b : ℕ) (bytes : List ℕ) → IsBytes (b ∷ bytes) → IsBytes bytes
IsBytes-rest b bytes h i = h (suc i)

-- a form whose first byte tells the variant
pub numbered : {X : Type 0} (form : X → List ℕ) (Fits : X → Type 0) (of : ℕ → List ℕ → Read X)
    → ((n : ℕ) (bytes : List ℕ) (x : X × List ℕ) → IsBytes bytes → of n bytes ≡ Ok x → Took form Fits n bytes x)
    → (bytes : List ℕ) (x : X × List ℕ) → IsBytes bytes → (byte_at bytes >>= λ n. of n.0 n.1) ≡ Ok x → Takes bytes (form x.0) x.1 × Fits x.0
numbered form Fits of took [] x fits e = absurd cc
numbered form Fits of took (n ∷ bytes) x fits e = took n bytes x (IsBytes-rest n bytes fits) e
