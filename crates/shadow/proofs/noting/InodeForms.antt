-- What is kept of an inode lies over what stands there, after one edit more: its form, and what was written.
use Rattle.std.proofs.Common.{◌≡◌, ◌≢◌, ℕ, ◌+◌, ◌==◌, ◌||◌, Bool, true, false, cond, List, [], ◌∷◌, Option, Some, None, refl, sym, ap, subst, ◌∙◌, eqb-true, ne_eqb, eq-eqb, arith}
use Rattle.std.proofs.lemmas.Bool.{false≢true}
use Rattle.std.proofs.lemmas.List.Sums.{sum_by-cons}
use Rattle.model.specs.FiniteMap.{get}
use Rattle.model.specs.State.{Kind, A_file, A_directory, A_pipe, Kernel, Inode, kind, kind_of, mapped}
use Rattle.model.specs.Changes.{Edit}
use Rattle.call_laws.specs.Fits.{Fits}
use Rattle.freeing_laws.specs.Counts.{times}
use Rattle.notes.specs.declared.change.Contents.{Contents}
use Rattle.notes.specs.declared.change.Contents.TheVariants.{Same, Names, Bytes, Pipe as Piped, Fixed as As_fixed}
use Rattle.notes.specs.declared.change.Made.{Made as What}
use Rattle.notes.specs.declared.change.Made.TheVariants.{Directory as Dir_made, File as File_made, Pipe as Pipe_made, Fixed as Fixed_made}
use Rattle.shadow.specs.Agrees.{IsOver}
use Rattle.notes.specs.Patches.{of_pipe, of_fixed, Form, no_change, of_names, of_bytes, form_of, numbers_in, patched}
use Rattle.notes.specs.Steps.{piped, AreApart, IsOne, filed, form_after, listed, made_after, new_in, numbers_kept, parents_in}
use Rattle.notes.proofs.Laws.{by_one}
use Rattle.shadow.proofs.shared.FixedKinds.{no_directory, no_file, no_pipe}

-- a directory's changes stay a directory's, and a file's a file's
listed_over : (c : Contents) (o : Option Inode) (made : Option What) → mapped kind (patched c o) ≡ Some A_directory → IsOver (mapped kind o) made (form_of c) → IsOver (mapped kind o) made (listed (form_of c))
listed_over Same o None is over = (refl, is)
listed_over Same o (Some Dir_made) is over = absurd cc
listed_over Same o (Some File_made) is over = absurd cc
listed_over Same o (Some Pipe_made) is over = absurd cc
listed_over Same o (Some Fixed_made) is over = absurd cc
listed_over (As_fixed fixed) o made is over = no_directory fixed is
listed_over (Names fresh notes) o made is over = over
listed_over (Bytes fresh bytes) o made is over = absurd cc
listed_over (Piped fresh changes) o made is over = absurd cc

filed_over : (c : Contents) (o : Option Inode) (made : Option What) → mapped kind (patched c o) ≡ Some A_file → IsOver (mapped kind o) made (form_of c) → IsOver (mapped kind o) made (filed (form_of c))
filed_over Same o None is over = (refl, is)
filed_over Same o (Some Dir_made) is over = absurd cc
filed_over Same o (Some File_made) is over = absurd cc
filed_over Same o (Some Pipe_made) is over = absurd cc
filed_over Same o (Some Fixed_made) is over = absurd cc
filed_over (As_fixed fixed) o made is over = no_file fixed is
filed_over (Bytes fresh bytes) o made is over = over
filed_over (Names fresh notes) o made is over = absurd cc
filed_over (Piped fresh changes) o made is over = absurd cc

piped_over : (c : Contents) (o : Option Inode) (made : Option What) → mapped kind (patched c o) ≡ Some A_pipe → IsOver (mapped kind o) made (form_of c) → IsOver (mapped kind o) made (piped (form_of c))
piped_over Same o None is over = (refl, is)
piped_over Same o (Some Dir_made) is over = absurd cc
piped_over Same o (Some File_made) is over = absurd cc
piped_over Same o (Some Pipe_made) is over = absurd cc
piped_over Same o (Some Fixed_made) is over = absurd cc
piped_over (As_fixed fixed) o made is over = no_pipe fixed is
piped_over (Piped fresh changes) o made is over = over
piped_over (Names fresh notes) o made is over = absurd cc
piped_over (Bytes fresh bytes) o made is over = absurd cc

-- nothing was written into a directory, or where nothing stands
unwritten : (c : Contents) (o : Option Inode) → mapped kind (patched c o) ≡ Some A_directory → [] ≡ numbers_in c
unwritten Same o is = refl
unwritten (Names fresh notes) o is = refl
unwritten (Bytes fresh bytes) o is = absurd cc
unwritten (Piped fresh changes) o is = absurd cc
unwritten (As_fixed fixed) o is = refl

unwritten_none : (c : Contents) (o : Option Inode) → patched c o ≡ None → [] ≡ numbers_in c
unwritten_none Same o is = refl
unwritten_none (Names fresh notes) o is = refl
unwritten_none (Bytes fresh bytes) o is = absurd cc
unwritten_none (Piped fresh changes) o is = absurd cc
unwritten_none (As_fixed fixed) o is = refl

-- what an edit finds at a number
found_kind : (mid : Kernel) (n m : ℕ) (c : Contents) (o : Option Inode) (what : Kind) → get mid.inodes n ≡ patched c o → (n == m) ≡ true → kind_of mid m ≡ Some what → mapped kind (patched c o) ≡ Some what
found_kind mid n m c o what is h k = ap (mapped kind) (sym is) ∙ ap (kind_of mid) (eqb-true n m h) ∙ k

abbrev OverAfter : List ℕ → Edit → Type 0
OverAfter chosen e = AreApart chosen e → (mid : Kernel) → Fits chosen mid e → (n : ℕ) (o : Option Inode) (made : Option What) (c : Contents) → get mid.inodes n ≡ patched c o
    → IsOver (mapped kind o) made (form_of c) → IsOver (mapped kind o) (made_after chosen e n made) (form_after chosen e n (form_of c))

-- a new object comes in a directory
made_over : (what : What) (new : Form) → ((kind : Option Kind) → IsOver kind (Some what) new) → (d m : ℕ) → m ≢ d → (mid : Kernel) → kind_of mid d ≡ Some A_directory → (n : ℕ) (o : Option Inode) (made : Option What) (c : Contents) → get mid.inodes n ≡ patched c o
    → IsOver (mapped kind o) made (form_of c)
    → IsOver (mapped kind o) (cond (n == m) (Some what) made) (cond (n == d) (listed (cond (n == m) new (form_of c))) (cond (n == m) new (form_of c)))
made_over what new fresh d m apart mid parent n o made c is over = by_tests (n == d) (n == m) refl refl
  where
    by_tests : (b e : Bool) → (n == d) ≡ b → (n == m) ≡ e → IsOver (mapped kind o) (cond e (Some what) made) (cond b (listed (cond e new (form_of c))) (cond e new (form_of c)))
    by_tests true true h i = absurd (apart (sym (eqb-true n m i) ∙ eqb-true n d h))
    by_tests true false h i = listed_over c o made (found_kind mid n d c o A_directory is h parent) over
    by_tests false true h i = fresh (mapped kind o)
    by_tests false false h i = over

filed_at : (m : ℕ) (mid : Kernel) → kind_of mid m ≡ Some A_file → (n : ℕ) (o : Option Inode) (made : Option What) (c : Contents) → get mid.inodes n ≡ patched c o
    → IsOver (mapped kind o) made (form_of c) → IsOver (mapped kind o) made (cond (n == m) (filed (form_of c)) (form_of c))
filed_at m mid is_file n o made c is over = by_test (n == m) refl
  where
    by_test : (b : Bool) → (n == m) ≡ b → IsOver (mapped kind o) made (cond b (filed (form_of c)) (form_of c))
    by_test true h = filed_over c o made (found_kind mid n m c o A_file is h is_file) over
    by_test false h = over

listed_at : (m : ℕ) (mid : Kernel) → kind_of mid m ≡ Some A_directory → (n : ℕ) (o : Option Inode) (made : Option What) (c : Contents) → get mid.inodes n ≡ patched c o
    → IsOver (mapped kind o) made (form_of c) → IsOver (mapped kind o) made (cond (n == m) (listed (form_of c)) (form_of c))
listed_at m mid is_directory n o made c is over = by_test (n == m) refl
  where
    by_test : (b : Bool) → (n == m) ≡ b → IsOver (mapped kind o) made (cond b (listed (form_of c)) (form_of c))
    by_test true h = listed_over c o made (found_kind mid n m c o A_directory is h is_directory) over
    by_test false h = over

listed_again : (form : Form) → listed (listed form) ≡ listed form
listed_again no_change = refl
listed_again (of_names fresh) = refl
listed_again (of_bytes fresh) = refl
listed_again (of_pipe fresh) = refl
listed_again of_fixed = refl

piped_at : (m : ℕ) (mid : Kernel) → kind_of mid m ≡ Some A_pipe → (n : ℕ) (o : Option Inode) (made : Option What) (c : Contents) → get mid.inodes n ≡ patched c o
    → IsOver (mapped kind o) made (form_of c) → IsOver (mapped kind o) made (cond (n == m) (piped (form_of c)) (form_of c))
piped_at m mid is_pipe n o made c is over = by_test (n == m) refl
  where
    by_test : (b : Bool) → (n == m) ≡ b → IsOver (mapped kind o) made (cond b (piped (form_of c)) (form_of c))
    by_test true h = piped_over c o made (found_kind mid n m c o A_pipe is h is_pipe) over
    by_test false h = over

pipe_made : (m n : ℕ) (kind : Option Kind) (made : Option What) (form : Form) → IsOver kind made form → IsOver kind (cond (n == m) (Some Pipe_made) made) (cond (n == m) (of_pipe true) form)
pipe_made m n kind made form over = by_test (n == m)
  where
    by_test : (b : Bool) → IsOver kind (cond b (Some Pipe_made) made) (cond b (of_pipe true) form)
    by_test true = refl
    by_test false = over

moved_listed : (d e : ℕ) (mid : Kernel) → kind_of mid d ≡ Some A_directory → kind_of mid e ≡ Some A_directory → (n : ℕ) (o : Option Inode) (made : Option What) (c : Contents) → get mid.inodes n ≡ patched c o
    → IsOver (mapped kind o) made (form_of c) → IsOver (mapped kind o) made (cond (n == e) (listed (cond (n == d) (listed (form_of c)) (form_of c))) (cond (n == d) (listed (form_of c)) (form_of c)))
moved_listed d e mid from onto n o made c is over = by_tests (n == d) (n == e) refl refl
  where
    by_tests : (b t : Bool) → (n == d) ≡ b → (n == e) ≡ t → IsOver (mapped kind o) made (cond t (listed (cond b (listed (form_of c)) (form_of c))) (cond b (listed (form_of c)) (form_of c)))
    by_tests true true h i = subst (IsOver (mapped kind o) made) (sym (listed_again (form_of c))) (listed_over c o made (found_kind mid n d c o A_directory is h from) over)
    by_tests false true h i = listed_over c o made (found_kind mid n e c o A_directory is i onto) over
    by_tests true false h i = listed_over c o made (found_kind mid n d c o A_directory is h from) over
    by_tests false false h i = over

pub over_after : (chosen : List ℕ) (e : Edit) → IsOne e → OverAfter chosen e
over_after chosen e one = by_one (OverAfter chosen)
    (λ d x i apart mid f. made_over Dir_made (of_names true) (λ kind. refl) d (new_in chosen i) apart mid f.0.parent.directory)
    (λ d x i apart mid f. made_over File_made (of_bytes true) (λ kind. refl) d (new_in chosen i) apart mid f.0.parent.directory)
    (λ d x fixed i apart mid f. made_over Fixed_made of_fixed (λ kind. refl) d (new_in chosen i) apart mid f.0.parent.directory)
    (λ d x m apart mid f. listed_at d mid f.0.parent.directory)
    (λ d x m apart mid f. listed_at d mid f.0.parent.directory)
    (λ d x m apart mid f. listed_at d mid f.parent.directory)
    (λ d x e y m replaced apart mid f. moved_listed d e mid f.from.parent.directory f.onto.directory)
    (λ m place bytes before apart mid f. filed_at m mid f.0)
    (λ m before after apart mid f. filed_at m mid f.0)
    (λ i inode mode pid s apart mid f n o made c is over. over)
    (λ d place apart mid f n o made c is over. over)
    (λ pid s pipes apart mid f n o made c is over. over)
    (λ pid s d pipes apart mid f n o made c is over. over)
    (λ p count apart mid f. piped_at p mid f.0)
    (λ p bytes apart mid f. piped_at p mid f.0)
    (λ i pid s g apart mid f n o made c is over. pipe_made (new_in chosen i) n (mapped kind o) made (form_of c) over)
    (λ m rights apart mid f n o made c is over. over)
    (λ d x m e y q apart mid f. moved_listed d e mid f.first.parent.directory f.second.parent.directory)
    (λ m place count apart mid f. filed_at m mid f.0)
    e one

-- what was written before an edit is kept
abbrev KeptSame : List ℕ → Edit → Type 0
KeptSame chosen e = (mid : Kernel) → Fits chosen mid e → (n : ℕ) (o : Option Inode) (c : Contents) → get mid.inodes n ≡ patched c o → numbers_kept chosen e n (numbers_in c) ≡ numbers_in c

made_kept : (d m : ℕ) (mid : Kernel) → kind_of mid d ≡ Some A_directory → get mid.inodes m ≡ None → (n : ℕ) (o : Option Inode) (c : Contents) → get mid.inodes n ≡ patched c o → cond ((n == d) || (n == m)) [] (numbers_in c) ≡ numbers_in c
made_kept d m mid parent nothing n o c is = by_tests (n == d) (n == m) refl refl
  where
    by_tests : (b e : Bool) → (n == d) ≡ b → (n == m) ≡ e → cond (b || e) [] (numbers_in c) ≡ numbers_in c
    by_tests true e h i = unwritten c o (found_kind mid n d c o A_directory is h parent)
    by_tests false true h i = unwritten_none c o (sym is ∙ ap (get mid.inodes) (eqb-true n m i) ∙ nothing)
    by_tests false false h i = refl

listed_kept : (d : ℕ) (mid : Kernel) → kind_of mid d ≡ Some A_directory → (n : ℕ) (o : Option Inode) (c : Contents) → get mid.inodes n ≡ patched c o → cond (n == d) [] (numbers_in c) ≡ numbers_in c
listed_kept d mid parent n o c is = by_test (n == d) refl
  where
    by_test : (b : Bool) → (n == d) ≡ b → cond b [] (numbers_in c) ≡ numbers_in c
    by_test true h = unwritten c o (found_kind mid n d c o A_directory is h parent)
    by_test false h = refl

moved_kept : (d e : ℕ) (mid : Kernel) → kind_of mid d ≡ Some A_directory → kind_of mid e ≡ Some A_directory → (n : ℕ) (o : Option Inode) (c : Contents) → get mid.inodes n ≡ patched c o
    → cond (n == e) [] (cond (n == d) [] (numbers_in c)) ≡ numbers_in c
moved_kept d e mid from onto n o c is = ap (cond (n == e) []) (listed_kept d mid from n o c is) ∙ listed_kept e mid onto n o c is

new_kept : (m : ℕ) (mid : Kernel) → get mid.inodes m ≡ None → (n : ℕ) (o : Option Inode) (c : Contents) → get mid.inodes n ≡ patched c o → cond (n == m) [] (numbers_in c) ≡ numbers_in c
new_kept m mid nothing n o c is = by_test (n == m) refl
  where
    by_test : (b : Bool) → (n == m) ≡ b → cond b [] (numbers_in c) ≡ numbers_in c
    by_test true h = unwritten_none c o (sym is ∙ ap (get mid.inodes) (eqb-true n m h) ∙ nothing)
    by_test false h = refl

pub kept_same : (chosen : List ℕ) (e : Edit) → IsOne e → KeptSame chosen e
kept_same chosen e one = by_one (KeptSame chosen)
    (λ d x i mid f. made_kept d (new_in chosen i) mid f.0.parent.directory f.1.inode)
    (λ d x i mid f. made_kept d (new_in chosen i) mid f.0.parent.directory f.1.inode)
    (λ d x fixed i mid f. made_kept d (new_in chosen i) mid f.0.parent.directory f.1.inode)
    (λ d x m mid f. listed_kept d mid f.0.parent.directory)
    (λ d x m mid f. listed_kept d mid f.0.parent.directory)
    (λ d x m mid f. listed_kept d mid f.parent.directory)
    (λ d x e y m replaced mid f. moved_kept d e mid f.from.parent.directory f.onto.directory)
    (λ m place bytes before mid f n o c is. refl)
    (λ m before after mid f n o c is. refl)
    (λ i inode mode pid s mid f n o c is. refl)
    (λ d place mid f n o c is. refl)
    (λ pid s pipes mid f n o c is. refl)
    (λ pid s d pipes mid f n o c is. refl)
    (λ p count mid f n o c is. refl)
    (λ p bytes mid f n o c is. refl)
    (λ i pid s g mid f. new_kept (new_in chosen i) mid f.pipe.inode)
    (λ m rights mid f n o c is. refl)
    (λ d x m e y q mid f. moved_kept d e mid f.first.parent.directory f.second.parent.directory)
    (λ m place count mid f n o c is. refl)
    e one

-- what has changes after an edit, or gets a name by it, had changes before
listed_some : (form : Form) → listed form ≢ no_change
listed_some no_change e = absurd cc
listed_some (of_names fresh) e = absurd cc
listed_some (of_bytes fresh) e = absurd cc
listed_some (of_pipe fresh) e = absurd cc
listed_some of_fixed e = absurd cc

filed_some : (form : Form) → filed form ≢ no_change
filed_some no_change e = absurd cc
filed_some (of_names fresh) e = absurd cc
filed_some (of_bytes fresh) e = absurd cc
filed_some (of_pipe fresh) e = absurd cc
filed_some of_fixed e = absurd cc

piped_some : (form : Form) → piped form ≢ no_change
piped_some no_change e = absurd cc
piped_some (of_names fresh) e = absurd cc
piped_some (of_bytes fresh) e = absurd cc
piped_some (of_pipe fresh) e = absurd cc
piped_some of_fixed e = absurd cc

no_parent : (n d : ℕ) → (n == d) ≡ false → times n (d ∷ []) ≡ 0
no_parent n d h = ap (λ b. 0 + cond b 1 0) (ne_eqb d n (λ e. false≢true (sym h ∙ eq-eqb n d (sym e))))

listed_before : (d n : ℕ) (form : Form) → cond (n == d) (listed form) form ≡ no_change → (form ≡ no_change) × ((n == d) ≡ false)
listed_before d n form none = by_test (n == d) refl none
  where
    by_test : (b : Bool) → (n == d) ≡ b → cond b (listed form) form ≡ no_change → (form ≡ no_change) × ((n == d) ≡ false)
    by_test true h e = absurd (listed_some form e)
    by_test false h e = (e, h)

abbrev StillBefore : List ℕ → Edit → Type 0
StillBefore chosen e = (n : ℕ) (form : Form) → form_after chosen e n form ≡ no_change → (form ≡ no_change) × (times n (parents_in e) ≡ 0)

made_before : (new : Form) → new ≢ no_change → (d m n : ℕ) (form : Form) → cond (n == d) (listed (cond (n == m) new form)) (cond (n == m) new form) ≡ no_change → (form ≡ no_change) × (times n (d ∷ []) ≡ 0)
made_before new some d m n form none =
    let outer = listed_before d n (cond (n == m) new form) none in
    (by_test (n == m) outer.0, no_parent n d outer.1)
  where
    by_test : (b : Bool) → cond b new form ≡ no_change → form ≡ no_change
    by_test true e = absurd (some e)
    by_test false e = e

filed_before : (m n : ℕ) (form : Form) → cond (n == m) (filed form) form ≡ no_change → (form ≡ no_change) × (times n [] ≡ 0)
filed_before m n form none = by_test (n == m) none
  where
    by_test : (b : Bool) → cond b (filed form) form ≡ no_change → (form ≡ no_change) × (times n [] ≡ 0)
    by_test true e = absurd (filed_some form e)
    by_test false e = (e, refl)

changed_before : (m n : ℕ) (new form : Form) → new ≢ no_change → cond (n == m) new form ≡ no_change → (form ≡ no_change) × (times n [] ≡ 0)
changed_before m n new form some none = by_test (n == m) none
  where
    by_test : (b : Bool) → cond b new form ≡ no_change → (form ≡ no_change) × (times n [] ≡ 0)
    by_test true e = absurd (some e)
    by_test false e = (e, refl)

two_parents : (n d e : ℕ) → (n == d) ≡ false → (n == e) ≡ false → times n (d ∷ e ∷ []) ≡ 0
two_parents n d e h i =
    let both : times n (d ∷ e ∷ []) ≡ cond (d == n) 1 0 + times n (e ∷ []) = sum_by-cons (λ v. cond (v == n) 1 0) d (e ∷ []) in
    let one : cond {A = ℕ} (d == n) 1 0 ≡ 0 = ap (λ b. cond {A = ℕ} b 1 0) (ne_eqb d n (λ same. false≢true (sym h ∙ eq-eqb n d (sym same)))) in
    let other : times n (e ∷ []) ≡ 0 = no_parent n e i in
    omega arith

swapped_before : (d e n : ℕ) (form : Form) → cond (n == e) (listed (cond (n == d) (listed form) form)) (cond (n == d) (listed form) form) ≡ no_change → (form ≡ no_change) × (times n (d ∷ e ∷ []) ≡ 0)
swapped_before d e n form none =
    let outer = listed_before e n (cond (n == d) (listed form) form) none in
    let inner = listed_before d n form outer.0 in
    (inner.0, two_parents n d e inner.1 outer.1)

pub still_before : (chosen : List ℕ) (e : Edit) → IsOne e → StillBefore chosen e
still_before chosen e one = by_one (StillBefore chosen)
    (λ d x i. made_before (of_names true) (λ e. absurd cc) d (new_in chosen i))
    (λ d x i. made_before (of_bytes true) (λ e. absurd cc) d (new_in chosen i))
    (λ d x fixed i. made_before of_fixed (λ e. absurd cc) d (new_in chosen i))
    (λ d x m n form none. ((listed_before d n form none).0, refl))
    (λ d x m n form none. ((listed_before d n form none).0, no_parent n d (listed_before d n form none).1))
    (λ d x m n form none. ((listed_before d n form none).0, refl))
    (λ d x e y m replaced n form none. ((listed_before d n form (listed_before e n (cond (n == d) (listed form) form) none).0).0, no_parent n e (listed_before e n (cond (n == d) (listed form) form) none).1))
    (λ m place bytes before. filed_before m)
    (λ m before after. filed_before m)
    (λ i inode mode pid s n form none. (none, refl))
    (λ d place n form none. (none, refl))
    (λ pid s pipes n form none. (none, refl))
    (λ pid s d pipes n form none. (none, refl))
    (λ p count n form none. changed_before p n (piped form) form (piped_some form) none)
    (λ p bytes n form none. changed_before p n (piped form) form (piped_some form) none)
    (λ i pid s g n form none. changed_before (new_in chosen i) n (of_pipe true) form (λ e. absurd cc) none)
    (λ m rights n form none. (none, refl))
    (λ d x m e y q n form none. swapped_before d e n form none)
    (λ m place count. filed_before m)
    e one
