-- What is kept of descriptions and of processes lies over what stands there, after one edit more.
use Rattle.std.proofs.Common.{◌≡◌, ◌≢◌, ℕ, suc, ◌+◌, ◌==◌, ◌||◌, Bool, true, false, cond, is_some, List, [], ◌∷◌, Option, Some, None, refl, sym, ap, ◌∙◌, arith, eqb-true}
use Rattle.model.specs.FiniteMap.{get}
use Rattle.model.specs.State.{Kernel, Description, Process, mapped, offset_in}
use Rattle.model.specs.Changes.{Edit, Set_offset, at_offset, at_start, number}
use Rattle.model.specs.Moments.{is_in}
use Rattle.call_laws.specs.Fits.{Fits}
use Rattle.notes.specs.declared.opening.Opening.{Opening}
use Rattle.notes.specs.declared.opening.Opening.TheVariants.{Kept, New, Moved}
use Rattle.shadow.specs.Agrees.{IsOverDescription}
use Rattle.notes.specs.Patches.{is_new, reslotted_by}
use Rattle.notes.specs.Steps.{IsOne, description_after, new_in, opened_in, process_after}
use Rattle.notes.proofs.Laws.{by_one}

-- what is known of a value by a test
some_not_none : {A : Type 0} (x : A) → Some x ≢ None
some_not_none x e = absurd cc

some_of : {A : Type 0} (o : Option A) → o ≢ None → is_some o ≡ true
some_of None h = absurd (h refl)
some_of (Some x) h = refl

-- a description whose offset was set is there
abbrev sample : ℕ → Description
sample place = record { inode = 0; reading = true; writing = true; appending = true; offset = place }

not_still : (place : ℕ) → ((o : Option Description) → mapped (at_offset place) o ≡ o) → ⊥
not_still place f = let same : place ≡ suc place = ap offset_in (f (Some (sample (suc place)))) in absurd (omega arith)

abbrev MovedThere : List ℕ → Edit → Type 0
MovedThere chosen e = (mid : Kernel) → Fits chosen mid e → (d place : ℕ) (o : Option Description) → get mid.descriptions d ≡ o → is_in d (opened_in chosen e) ≡ false
    → ((o : Option Description) → mapped (at_offset place) o ≡ description_after chosen e d o) → is_some o ≡ true

set_moved : (m pl : ℕ) (mid : Kernel) → Fits [] mid (Set_offset m pl) → (d place : ℕ) (o : Option Description) → get mid.descriptions d ≡ o
    → ((o : Option Description) → mapped (at_offset place) o ≡ cond (d == m) (mapped (at_offset pl) o) o) → is_some o ≡ true
set_moved m pl mid f d place o is same = by_test (d == m) refl same
  where
    by_test : (b : Bool) → (d == m) ≡ b → ((o : Option Description) → mapped (at_offset place) o ≡ cond b (mapped (at_offset pl) o) o) → is_some o ≡ true
    by_test true h g = ap is_some (sym is ∙ ap (get mid.descriptions) (eqb-true d m h) ∙ f.1)
    by_test false h g = absurd (not_still place g)

open_moved : (d m place : ℕ) (new : Option Description) (o : Option Description) → is_in d (m ∷ []) ≡ false → ((o : Option Description) → mapped (at_offset place) o ≡ cond (d == m) new o) → is_some o ≡ true
open_moved d m place new o away same = by_test (d == m) away same
  where
    by_test : (b : Bool) → (b || false) ≡ false → ((o : Option Description) → mapped (at_offset place) o ≡ cond b new o) → is_some o ≡ true
    by_test true h g = absurd cc
    by_test false h g = absurd (not_still place g)

pipe_moved : (d r w place : ℕ) (a b : Option Description) (o : Option Description) → is_in d (r ∷ w ∷ []) ≡ false → ((o : Option Description) → mapped (at_offset place) o ≡ cond (d == w) a (cond (d == r) b o)) → is_some o ≡ true
pipe_moved d r w place a b o away same = by_tests (d == r) (d == w) away same
  where
    by_tests : (x y : Bool) → (x || (y || false)) ≡ false → ((o : Option Description) → mapped (at_offset place) o ≡ cond y a (cond x b o)) → is_some o ≡ true
    by_tests true y h g = absurd cc
    by_tests false true h g = absurd cc
    by_tests false false h g = absurd (not_still place g)

pub moved_there : (chosen : List ℕ) (e : Edit) → IsOne e → MovedThere chosen e
moved_there chosen e one = by_one (MovedThere chosen)
    (λ d x i mid f q place o is away same. absurd (not_still place same))
    (λ d x i mid f q place o is away same. absurd (not_still place same))
    (λ d x fixed i mid f q place o is away same. absurd (not_still place same))
    (λ d x m mid f q place o is away same. absurd (not_still place same))
    (λ d x m mid f q place o is away same. absurd (not_still place same))
    (λ d x m mid f q place o is away same. absurd (not_still place same))
    (λ d x e y m replaced mid f q place o is away same. absurd (not_still place same))
    (λ m pl bytes before mid f q place o is away same. absurd (not_still place same))
    (λ m before after mid f q place o is away same. absurd (not_still place same))
    (λ i inode mode pid s mid f q place o is away same. open_moved q (new_in chosen i) place (Some (at_start (number chosen inode) mode)) o away same)
    (λ d pl mid f q place o is away same. set_moved d pl mid f q place o is same)
    (λ pid s pipes mid f q place o is away same. absurd (not_still place same))
    (λ pid s d pipes mid f q place o is away same. absurd (not_still place same))
    (λ p count mid f q place o is away same. absurd (not_still place same))
    (λ p bytes mid f q place o is away same. absurd (not_still place same))
    (λ i pid s g mid f q place o is away same. pipe_moved q (new_in chosen (i + 1)) (new_in chosen (i + 2)) place _ _ o away same)
    (λ m rights mid f q place o is away same. absurd (not_still place same))
    (λ d x m e y n mid f q place o is away same. absurd (not_still place same))
    (λ m at count mid f q place o is away same. absurd (not_still place same))
    e one

pub moved_over : (new old : Opening) (there : Bool) (opened : Bool) → is_new new ≡ (opened || is_new old) → IsOverDescription old there
    → ((place : ℕ) → new ≡ Moved place → old ≡ Kept → opened ≡ false → there ≡ true) → IsOverDescription new there
moved_over Kept old there opened news over then = tt
moved_over (New it) old there opened news over then = tt
moved_over (Moved place) Kept there false news over then = then place refl refl refl
moved_over (Moved place) Kept there true news over then = absurd cc
moved_over (Moved place) (New it) there false news over then = absurd cc
moved_over (Moved place) (New it) there true news over then = absurd cc
moved_over (Moved place) (Moved old) there opened news over then = over

-- a process whose slots change is alive
abbrev LivesBefore : List ℕ → Edit → Type 0
LivesBefore chosen e = (mid : Kernel) → Fits chosen mid e → (pid : ℕ) (o : Option Process) → get mid.processes pid ≡ o → process_after chosen e pid None ≢ None → is_some o ≡ true

slot_lives : (q : ℕ) (mid : Kernel) → get mid.processes q ≢ None → (pid : ℕ) (o : Option Process) → get mid.processes pid ≡ o → (new : Process) → cond (pid == q) (Some new) None ≢ None → is_some o ≡ true
slot_lives q mid alive pid o is new changed = by_test (pid == q) refl changed
  where
    by_test : (b : Bool) → (pid == q) ≡ b → cond b (Some new) None ≢ None → is_some o ≡ true
    by_test true h g = some_of o (λ none. alive (ap (get mid.processes) (sym (eqb-true pid q h)) ∙ is ∙ none))
    by_test false h g = absurd (g refl)

pub lives_before : (chosen : List ℕ) (e : Edit) → IsOne e → LivesBefore chosen e
lives_before chosen e one = by_one (LivesBefore chosen)
    (λ d x i mid f pid o is changed. absurd (changed refl))
    (λ d x i mid f pid o is changed. absurd (changed refl))
    (λ d x fixed i mid f pid o is changed. absurd (changed refl))
    (λ d x m mid f pid o is changed. absurd (changed refl))
    (λ d x m mid f pid o is changed. absurd (changed refl))
    (λ d x m mid f pid o is changed. absurd (changed refl))
    (λ d x e y m replaced mid f pid o is changed. absurd (changed refl))
    (λ m pl bytes before mid f pid o is changed. absurd (changed refl))
    (λ m before after mid f pid o is changed. absurd (changed refl))
    (λ i inode mode q s mid f pid o is changed. slot_lives q mid f.slot.alive pid o is _ changed)
    (λ d pl mid f pid o is changed. absurd (changed refl))
    (λ q s pipes mid f pid o is changed. slot_lives q mid f.alive pid o is _ changed)
    (λ q s d pipes mid f pid o is changed. slot_lives q mid f.alive pid o is _ changed)
    (λ p count mid f pid o is changed. absurd (changed refl))
    (λ p bytes mid f pid o is changed. absurd (changed refl))
    (λ i q s g mid f pid o is changed. slot_lives q mid f.slot.alive pid o is _ changed)
    (λ m rights mid f pid o is changed. absurd (changed refl))
    (λ d x m e y n mid f pid o is changed. absurd (changed refl))
    (λ m at count mid f pid o is changed. absurd (changed refl))
    e one

pub alive_over : (new old : List (ℕ × Option ℕ)) (o : Option Process) → new ≢ [] → (old ≢ [] → is_some o ≡ true) → (old ≡ [] → reslotted_by new None ≢ None → is_some o ≡ true) → is_some o ≡ true
alive_over new (g ∷ gs) o some was then = was (λ e. absurd cc)
alive_over [] [] o some was then = absurd (some refl)
alive_over (g ∷ gs) [] o some was then = then refl (λ e. some_not_none _ e)
