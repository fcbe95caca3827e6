-- Families that come back from threads.
use Rattle.std.proofs.Common.{◌≡◌, ℕ, ◌++◌, List, [], ◌∷◌, sym, ap, ◌∙◌, refl, append_assoc, append-nil, subst}
use Rattle.std.specs.declared.thread.PromisedHandle.{PromisedHandle}
use Rattle.ids.specs.declared.call.Op.{Op}
use Rattle.ids.specs.declared.reply.Reply.{Reply}
use Rattle.script.specs.Steps.{ops_for}
use Rattle.script.specs.declared.read.Line.{Line}
use Rattle.workers.specs.declared.threads.Family.{Family}
use Rattle.workers.specs.declared.threads.FamilyOf.{FamilyOf}
use Rattle.workers.specs.Families.{AreFamilies, children}
use Rattle.workers.specs.Threads.{Added, AreOver, promised}
use Rattle.workers.specs.Work.{IsWork}

-- some families, and then others
pub AreFamilies-append : {P H : Type 0} (number : P → ℕ) (home : P → H) (done : P → List (Op × Reply)) (lines : List Line) (h : H)
    (a b : List ℕ) (xs ys : List P) → AreFamilies number home done lines h a xs → AreFamilies number home done lines h b ys → AreFamilies number home done lines h (a ++ b) (xs ++ ys)
AreFamilies-append {P} number home done lines h a b [] ys f g =
    let F : List ℕ → Type 0 = λ w. AreFamilies number home done lines h (w ++ b) ys in subst F (sym f) g
AreFamilies-append number home done lines h [] b (x ∷ xs) ys f g = absurd f
AreFamilies-append number home done lines h (n ∷ a) b (x ∷ xs) ys f g = (
  f.0,
  f.1,
  f.2,
  (let F : List ℕ → Type 0 = λ w. AreFamilies number home done lines h w (xs ++ ys) in
      subst F (append_assoc (children (done x)) a b) (AreFamilies-append number home done lines h (children (done x) ++ a) b xs ys f.3 g)),
)

-- a process and the families of its children
pub AreFamilies-one : {P H : Type 0} (number : P → ℕ) (home : P → H) (done : P → List (Op × Reply)) (lines : List Line) (h : H) (port : P) (xs : List P)
    → home port ≡ h → IsWork (ops_for (number port) lines) (done port) → AreFamilies number home done lines h (children (done port)) xs
    → AreFamilies number home done lines h (number port ∷ []) (port ∷ xs)
AreFamilies-one {P} number home done lines h port xs there work f =
    (refl, there, work, (let F : List ℕ → Type 0 = λ w. AreFamilies number home done lines h w xs in subst F (sym (append-nil (children (done port)))) f))

-- Behind the old ports stand some families. With those of the processes that are left they are the
-- families of all.
pub record Completes {P H : Type 0} (number : P → ℕ) (home : P → H) (done : P → List (Op × Reply)) (lines : List Line) (h : H) (all left : List ℕ) (old ports : List P) : Type 0 where
  pub some : List P
  pub grown : ports ≡ old ++ some
  pub rest : (more : List P) → AreFamilies number home done lines h left more → AreFamilies number home done lines h all (some ++ more)

pub none_added : {P H : Type 0} (number : P → ℕ) (home : P → H) (done : P → List (Op × Reply)) (lines : List Line) (h : H) (all : List ℕ) (ports : List P)
    → Completes number home done lines h all all ports ports
none_added number home done lines h all ports = record { some = []; grown = sym (append-nil ports); rest = λ more f. f }

pub over_rest : {P L A : Type 0} (lines : L) (threads rest : List (PromisedHandle (Family P A) (FamilyOf L))) (thread : PromisedHandle (Family P A) (FamilyOf L))
    → threads ≡ thread ∷ rest → AreOver lines threads → (thread.promise.lines.value ≡ lines) × AreOver lines rest
over_rest {P} {L} {A} lines threads rest thread e over = let F : List (PromisedHandle (Family P A) (FamilyOf L)) → Type 0 = λ ts. AreOver lines ts in subst F e over

-- the family of one thread more
pub joined : {P H L A : Type 0} (number : P → ℕ) (home : P → H) (done : P → List (Op × Reply)) (listed : L → List Line) (port : L → P) (lines : L) (all : List ℕ)
    (threads others : List (PromisedHandle (Family P A) (FamilyOf L))) (thread : PromisedHandle (Family P A) (FamilyOf L)) (old ports family new : List P)
    → threads ≡ thread ∷ others → thread.promise.lines.value ≡ lines → new ≡ ports ++ family
    → Completes number home done (listed lines) (home (port lines)) all (promised threads) old ports
    → AreFamilies number home done (listed thread.promise.lines.value) (home (port thread.promise.lines.value)) (thread.promise.process ∷ []) family
    → Completes number home done (listed lines) (home (port lines)) all (promised others) old new
joined {P} {H} {L} {A} number home done listed port lines all threads others thread old ports family new e over is before kept =
    let S : L → Type 0 = λ ls. AreFamilies number home done (listed ls) (home (port ls)) (thread.promise.process ∷ []) family in
    let here = subst S over kept in
    record {
      some = before.some ++ family;
      grown = is ∙ ap (λ (xs : List P). xs ++ family) before.grown ∙ append_assoc old before.some family;
      rest = λ more f.
          let both = AreFamilies-append number home done (listed lines) (home (port lines)) (thread.promise.process ∷ []) (promised others) family more here f in
          let T : List (PromisedHandle (Family P A) (FamilyOf L)) → Type 0 = λ ts. AreFamilies number home done (listed lines) (home (port lines)) (promised ts) (family ++ more) in
          let Q : List P → Type 0 = λ xs. AreFamilies number home done (listed lines) (home (port lines)) all xs in
          subst Q (sym (append_assoc before.some family more)) (before.rest (family ++ more) (subst T (sym e) both));
    }

-- no thread is left
pub all_joined : {P H L A : Type 0} (number : P → ℕ) (home : P → H) (done : P → List (Op × Reply)) (lines : List Line) (h : H) (all : List ℕ)
    (threads : List (PromisedHandle (Family P A) (FamilyOf L))) (old ports : List P)
    → threads ≡ [] → Completes number home done lines h all (promised threads) old ports → Added number home done lines h all old ports
all_joined {P} {H} {L} {A} number home done lines h all threads old ports none before =
    let Q : List P → Type 0 = λ xs. AreFamilies number home done lines h all xs in
    record {
      families = before.some;
      grown = before.grown;
      each = subst Q (append-nil before.some) (before.rest [] (ap promised none));
    }
