-- The holder table after the marks of one touch.
use Rattle.std.proofs.Common.{◌≡◌, ℕ, refl, sym, ◌∙◌, ap, true, false, Bool, List}
use Rattle.std.specs.Prelude.{if◌then◌else◌, ◌&&◌, ◌||◌, ◌==◌}
use Rattle.std.proofs.lemmas.Bool.{eqb-true, eq-eqb}
use Rattle.model.specs.Aspects.{Entry, Names}
use Rattle.model.specs.Steps.{Touch}
use Rattle.list_modes.specs.declared.Held.{Held}
use Rattle.list_modes.specs.Holding.{Table, held_of, with_marks, SetsHeld}
use Rattle.marked_records.specs.Marks.{SetsMarks, marks_of, joined, changes_names}

-- one place of a process has another mark, and its other places what f says too
sets_marks : (old new : Table) (p e : ℕ) (h : Held) (f : ℕ → Held) → f e ≡ h → ((d : ℕ) → (d == e) ≡ false → f d ≡ held_of old p d) → SetsHeld old new p e h → SetsMarks old new p f
sets_marks old new p e h f here away sets q d = sets q d ∙ by (q == p) (d == e) refl refl where
  by : (a b : Bool) → (q == p) ≡ a → (d == e) ≡ b → (if a && b then h else held_of old q d) ≡ (if a then f d else held_of old q d)
  by false b other place = refl
  by true true own place = sym here ∙ ap f (sym (eqb-true d e place))
  by true false own place = ap (λ x. held_of old x d) (eqb-true q p own) ∙ sym (away d place)

held_equal : (a b : Held) → a.names_read ≡ b.names_read → a.entry_written ≡ b.entry_written → a ≡ b
held_equal a b names entries = λ i. record { names_read = names i; entry_written = entries i }

or_none : (b : Bool) → (b || false) ≡ b
or_none true = refl
or_none false = refl

-- with the marks of a touch by its tests at a directory
module _ (old new : Table) (p e : ℕ) (names entries : Bool) (at : ℕ → Held) (here : at e ≡ record { names_read = names; entry_written = entries }) (away : (d : ℕ) → (d == e) ≡ false → at d ≡ record { names_read = false; entry_written = false }) where
  marked_by : SetsHeld old new p e (with_marks (held_of old p e) names entries) → SetsMarks old new p (λ d. joined (held_of old p d) (at d))
  marked_by = sets_marks old new p e _ _ (ap (joined (held_of old p e)) here) (λ d ne. ap (joined (held_of old p d)) (away d ne) ∙ held_equal _ (held_of old p d) (or_none (held_of old p d).names_read) (or_none (held_of old p d).entry_written))

pub marked_entry : (old new : Table) (p e : ℕ) (x : List ℕ) (t : Touch) → t.aspect ≡ Entry e x → t.write ≡ true → SetsHeld old new p e (with_marks (held_of old p e) false true) → SetsMarks old new p (λ d. joined (held_of old p d) (marks_of d t))
marked_entry old new p e x t is write = marked_by old new p e false true (λ d. marks_of d t) (same e ∙ held_equal _ _ refl (eq-eqb e e refl)) (λ d ne. same d ∙ held_equal _ _ refl ne) where
  same : (d : ℕ) → marks_of d t ≡ marks_of d (record { aspect = Entry e x; write = true })
  same d = λ i. marks_of d (record { aspect = is i; write = write i })

changed_here : (e : ℕ) (b : Bool) → changes_names e (Names e) b ≡ b
changed_here e true = eq-eqb e e refl
changed_here e false = refl

changed_away : (d e : ℕ) (b : Bool) → (d == e) ≡ false → changes_names d (Names e) b ≡ false
changed_away d e true ne = ne
changed_away d e false ne = refl

pub marked_names : (old new : Table) (p e : ℕ) (t : Touch) → t.aspect ≡ Names e → SetsHeld old new p e (with_marks (held_of old p e) true t.write) → SetsMarks old new p (λ d. joined (held_of old p d) (marks_of d t))
marked_names old new p e t is = marked_by old new p e true t.write (λ d. marks_of d t) (same e ∙ held_equal _ _ (eq-eqb e e refl) (changed_here e t.write)) (λ d ne. same d ∙ held_equal _ _ ne (changed_away d e t.write ne)) where
  same : (d : ℕ) → marks_of d t ≡ marks_of d (record { aspect = Names e; write = t.write })
  same d = λ i. marks_of d (record { aspect = is i; write = t.write })
