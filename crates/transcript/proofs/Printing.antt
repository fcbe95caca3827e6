-- Texts printed one after another.
use Rattle.std.proofs.Common.{◌≡◌, ℕ, ◌+◌, ◌<◌, ◌≤◌, List, [], ◌∷◌, ◌++◌, Bool, true, false, Option, sym, ap, ◌∙◌, append_assoc, append-nil, refl, take, length, get_or, arith, subst}
use Rattle.std.specs.Prelude.{Result, Ok, Err, OnErr, OnOk, flat_map}
use Rattle.std.specs.Io.KnownBytes.{append_known}
use Rattle.std.proofs.lemmas.List.{take_all, take_more}
use Rattle.std.proofs.lemmas.List.Concat.{flat_map-append}
use Rattle.device.specs.Device.{IsPart}
use Rattle.device.specs.declared.DeviceFailed.{DeviceFailed}
use Rattle.device.proofs.Laws.{append_known-append_known, append_known-nil}
use Rattle.transcript.specs.Printer.{CanPrint, Prints, Reaches}
use Rattle.transcript.specs.declared.printer.Printer.{Printer}

-- a text, and then another, where the sink had not failed in between
Reaches-then : (a b c : Option (List ℕ)) (failed : Bool) (before between after s t : List ℕ)
    → Reaches a b false between (before ++ s) → Reaches b c failed after (between ++ t) → Reaches a c failed after (before ++ (s ++ t))
Reaches-then a b c failed before between after s t p q = record {
  front = p.front ++ q.front;
  back = q.back;
  whole =
      sym (append_assoc before s t)
      ∙ ap (λ (x : List ℕ). x ++ t) (p.whole ∙ ap (λ (x : List ℕ). p.front ++ x) (p.kept refl))
      ∙ append_assoc p.front between t
      ∙ ap (λ (x : List ℕ). p.front ++ x) q.whole
      ∙ sym (append_assoc p.front q.front q.back);
  appended = q.appended ∙ ap (λ (k : Option (List ℕ)). append_known k q.front) p.appended ∙ append_known-append_known a p.front q.front;
  kept = q.kept;
}

-- a text, and then another of which nothing is written
Reaches-longer : (a b c : Option (List ℕ)) (failed : Bool) (before between after s t : List ℕ)
    → Reaches a b true between (before ++ s) → c ≡ b → failed ≡ true → Reaches a c failed after (before ++ (s ++ t))
Reaches-longer a b c failed before between after s t p same e = record {
  front = p.front;
  back = p.back ++ t;
  whole = sym (append_assoc before s t) ∙ ap (λ (x : List ℕ). x ++ t) p.whole ∙ append_assoc p.front p.back t;
  appended = same ∙ p.appended;
  kept = λ h. absurd (cc (e, h));
}

part_of : (a b c : Option (List ℕ)) (failed : Bool) (before between after s t : List ℕ) (f : Bool)
    → Reaches a b f between (before ++ s) → (f ≡ false → Reaches b c failed after (between ++ t)) → (f ≡ true → (c ≡ b) × (failed ≡ true))
    → Reaches a c failed after (before ++ (s ++ t))
part_of a b c failed before between after s t true p q stays = let w = stays refl in Reaches-longer a b c failed before between after s t p w.0 w.1
part_of a b c failed before between after s t false p q stays = Reaches-then a b c failed before between after s t p (q refl)

cause_of : (m n k : ℕ) (a b c : Bool) → (a ≡ false → b ≡ true → m < n) → (b ≡ false → n ≡ m)
    → (b ≡ true → k ≡ n) → (b ≡ false → c ≡ true → n < k) → a ≡ false → c ≡ true → m < k
cause_of m n k a true c first same stays second ha hc = let l = first ha refl in let s = stays refl in omega arith
cause_of m n k a false c first same stays second ha hc = let l = second refl hc in let s = same refl in omega arith

-- a text, and then another
pub Prints-then : {S : Type 0} {written : S → Option (List ℕ)} {failures : S → ℕ} {a b c : Printer S} (s t : List ℕ)
    → Prints written failures a b s → Prints written failures b c t → Prints written failures a c (s ++ t)
Prints-then {S} {written} {failures} {a} {b} {c} s t p q = record {
  same_sink = q.same_sink ∙ p.same_sink;
  part = λ h. part_of (written a.sink.now) (written b.sink.now) (written c.sink.now) c.failed a.pending b.pending c.pending s t b.failed
      (p.part h) q.part (λ e. let w = q.stays e in (w.0, w.2));
  clean = λ h. let w = q.clean h in let v = p.clean w.1 in (w.0 ∙ v.0, v.1);
  stays = λ h. let v = p.stays h in let w = q.stays v.2 in (w.0 ∙ v.0, w.1 ∙ v.1, w.2);
  cause = cause_of (failures a.sink.now) (failures b.sink.now) (failures c.sink.now) a.failed b.failed c.failed
      p.cause (λ h. (p.clean h).0) (λ h. (q.stays h).1) q.cause;
}

-- no text
pub Prints-none : {S : Type 0} (written : S → Option (List ℕ)) (failures : S → ℕ) (a : Printer S) → Prints written failures a a []
Prints-none written failures a = record {
  same_sink = refl;
  part = λ h. record {
    front = [];
    back = a.pending;
    whole = append-nil a.pending;
    appended = sym (append_known-nil (written a.sink.now));
    kept = λ _. refl;
  };
  clean = λ h. (refl, h);
  stays = λ h. (refl, refl, h);
  cause = λ h k. absurd (cc (h, k));
}

-- the same text in other words
pub Prints-as : {S : Type 0} {written : S → Option (List ℕ)} {failures : S → ℕ} {a b : Printer S} {s t : List ℕ}
    → Prints written failures a b s → s ≡ t → Prints written failures a b t
Prints-as {S} {written} {failures} {a} {b} {s} {t} p e = let P : List ℕ → Type 0 = λ x. Prints written failures a b x in subst P e p

-- a text, and then another of two parts
pub Prints-on : {S : Type 0} {written : S → Option (List ℕ)} {failures : S → ℕ} {a b c : Printer S} (s t u : List ℕ)
    → Prints written failures a b s → Prints written failures b c (t ++ u) → Prints written failures a c (s ++ t ++ u)
Prints-on s t u p q = Prints-as (Prints-then _ _ p q) (sym (append_assoc s t u))

one_more : {X : Type 0} (f : X → List ℕ) (xs : List X) (i : ℕ) (x : X) → i < length xs → x ≡ get_or xs i x → flat_map f (take (i + 1) xs) ≡ flat_map f (take i xs) ++ f x
one_more {X} f xs i x below is = ap (λ (ys : List X). flat_map f ys) (take_more xs i x below ∙ ap (λ (y : X). take i xs ++ y ∷ []) (sym is))
    ∙ flat_map-append f (take i xs) (x ∷ []) ∙ ap (λ (ys : List ℕ). flat_map f (take i xs) ++ ys) (append-nil (f x))

-- the text of one more
pub Prints-next : {S : Type 0} {written : S → Option (List ℕ)} {failures : S → ℕ} {a b c : Printer S} {X : Type 0} (f : X → List ℕ) (xs : List X) (i : ℕ) (x : X)
    → i < length xs → x ≡ get_or xs i x
    → Prints written failures a b (flat_map f (take i xs)) → Prints written failures b c (f x) → Prints written failures a c (flat_map f (take (i + 1) xs))
Prints-next f xs i x below is p q = Prints-as (Prints-then _ _ p q) (sym (one_more f xs i x below is))

-- the text of all
pub Prints-all : {S : Type 0} {written : S → Option (List ℕ)} {failures : S → ℕ} {a b : Printer S} {X : Type 0} (f : X → List ℕ) (xs : List X) (i : ℕ)
    → length xs ≤ i → Prints written failures a b (flat_map f (take i xs)) → Prints written failures a b (flat_map f xs)
Prints-all {X = X} f xs i end p = Prints-as p (ap (λ (ys : List X). flat_map f ys) (take_all i xs end))

-- the texts of some, and then of some more
pub Prints-more : {S : Type 0} {written : S → Option (List ℕ)} {failures : S → ℕ} {a b c : Printer S} {X : Type 0} (f : X → List ℕ) (xs ys : List X)
    → Prints written failures a b (flat_map f xs) → Prints written failures b c (flat_map f ys) → Prints written failures a c (flat_map f (xs ++ ys))
Prints-more f xs ys p q = Prints-as (Prints-then _ _ p q) (sym (flat_map-append f xs ys))

-- what can print can print again
pub CanPrint-after : {S : Type 0} {written : S → Option (List ℕ)} {failures : S → ℕ} {a b : Printer S} {t : List ℕ}
    → Prints written failures a b t → CanPrint failures a → CanPrint failures b
CanPrint-after p can = λ h. let w = p.clean h in let l = can w.1 in omega arith

-- all that was written is a beginning of the text, where nothing was pending before
Prints-part : {S : Type 0} {written : S → Option (List ℕ)} {failures : S → ℕ} {a b : Printer S} {text : List ℕ}
    → Prints written failures a b text → a.failed ≡ false → a.pending ≡ [] → IsPart (written a.sink.now) (written b.sink.now) text
Prints-part {S} {written} {failures} {a} {b} {text} p h e =
    let r = p.part h in
    record { front = r.front; back = r.back; whole = ap (λ (x : List ℕ). x ++ text) (sym e) ∙ r.whole; appended = r.appended }

-- all of the text is written, where nothing is pending any more
Prints-whole : {S : Type 0} {written : S → Option (List ℕ)} {failures : S → ℕ} {a b : Printer S} {text : List ℕ}
    → Prints written failures a b text → a.failed ≡ false → b.failed ≡ false → a.pending ≡ [] → b.pending ≡ [] → written b.sink.now ≡ append_known (written a.sink.now) text
Prints-whole {S} {written} {failures} {a} {b} {text} p h k e f =
    let r = p.part h in
    let all : text ≡ r.front =
    ap (λ (x : List ℕ). x ++ text) (sym e) ∙ r.whole ∙ ap (λ (x : List ℕ). r.front ++ x) (r.kept k ∙ f) ∙ append-nil r.front in
    r.appended ∙ ap (λ (x : List ℕ). append_known (written a.sink.now) x) (sym all)

-- what a printing to the end answers
pub record Finished {S : Type 0} (written : S → Option (List ℕ)) (failures : S → ℕ) (old new : S) (text : List ℕ) (answer : Result Unit DeviceFailed) : Type 0 where
  pub ok : OnOk answer (written new ≡ append_known (written old) text)
  pub no_failure : OnOk answer (failures new ≡ failures old)
  pub part : IsPart (written old) (written new) text
  pub failure : OnErr answer (failures old < failures new)

-- where nothing was pending before, and nothing is pending any more
pub Finished-by : {S : Type 0} {written : S → Option (List ℕ)} {failures : S → ℕ} {a b : Printer S} {text : List ℕ} (answer : Result Unit DeviceFailed)
    → Prints written failures a b text → a.failed ≡ false → a.pending ≡ [] → b.pending ≡ [] → OnOk answer (b.failed ≡ false) → OnErr answer (b.failed ≡ true)
    → Finished written failures a.sink.now b.sink.now text answer
Finished-by (Ok done) p h e f ok failed = record { ok = Prints-whole p h ok e f; no_failure = (p.clean ok).0; part = Prints-part p h e; failure = tt }
Finished-by (Err why) p h e f ok failed = record { ok = tt; no_failure = tt; part = Prints-part p h e; failure = p.cause h failed }
