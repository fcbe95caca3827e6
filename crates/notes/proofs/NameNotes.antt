-- One name more among those that a transaction changed in a directory.
use Rattle.std.proofs.Common.{◌≡◌, ℕ, ◌+◌, ◌≤◌, Bool, true, false, cond, count_by, is_some, List, [], ◌∷◌, Option, Some, None, refl, sym, ap, ◌∙◌, arith}
use Rattle.std.specs.Ordering.{eq_by_cmp, is_eq}
use Rattle.std.specs.Cmp.{tied_itself}
use Rattle.model.proofs.Laws.{tie}
use Rattle.std.specs.declared.cmp.Ordering.{Ordering}
use Rattle.std.specs.declared.cmp.Ordering.TheVariants.{Less, Equal, Greater}
use Rattle.std.specs.FinMap.Entries.{by_order, put}
use Rattle.std.proofs.lemmas.List.Sums.{sum_by-cons}
use Rattle.model.specs.FiniteMap.{FinMap, empty, entries, get, insert, entries-insert, entries-empty, get-insert, get-remove, same_map}
use Rattle.model.specs.State.{Name, name_cmp, Inode, Directory}
use Rattle.dirlist.specs.Patches.{Notes, back_over, note_back, noted_back, or_before}
use Rattle.dirlist.proofs.Laws.{name_total, name_exact}
use Rattle.store.specs.Laid.{laid, with_note}
use Rattle.store.proofs.Laws.{laid_is}
use Rattle.notes.specs.declared.change.Contents.{Contents}
use Rattle.notes.specs.declared.change.Contents.TheVariants.{Names}
use Rattle.notes.specs.Patches.{added_by, names_before, patched}
use Rattle.notes.specs.Notes.{room_for}
use Rattle.notes.specs.Steps.{name_noted}

get-with_note : (x : Name) (g : Option ℕ) (names : FinMap name_cmp ℕ) (q : Name) → get (with_note x g names) q ≡ cond (eq_by_cmp name_cmp q x) g (get names q)
get-with_note x (Some n) names q = get-insert name_total names x n q
get-with_note x None names q = get-remove name_total names x q

-- one note more is laid over what the others leave
pub laid_insert : (notes : Notes) (x : Name) (g : Option ℕ) (names : FinMap name_cmp ℕ) → laid (entries (insert notes x g)) names ≡ with_note x g (laid (entries notes) names)
laid_insert notes x g names = same_map name_total name_exact _ _ (λ q.
    laid_is (insert notes x g) names q
    ∙ ap (λ (o : Option (Option ℕ)). or_before o (get names q)) (get-insert name_total notes x g q)
    ∙ by_test q (eq_by_cmp name_cmp q x)
    ∙ ap (cond (eq_by_cmp name_cmp q x) g) (sym (laid_is notes names q))
    ∙ sym (get-with_note x g (laid (entries notes) names) q))
  where
    by_test : (q : Name) (b : Bool) → or_before (cond b (Some g) (get notes q)) (get names q) ≡ cond b g (or_before (get notes q) (get names q))
    by_test q true = refl
    by_test q false = refl

pub laid_none : (names : FinMap name_cmp ℕ) → laid (entries (empty {K = Name} {X = Option ℕ} {R = name_cmp})) names ≡ names
laid_none names = ap (λ (notes : List (Name × Option ℕ)). laid notes names) (entries-empty name_cmp)

-- how many of the notes give a number
abbrev come : List (Name × Option ℕ) → ℕ
come gs = count_by (λ g. is_some g.1) gs

come_first : (g : Name × Option ℕ) (gs : List (Name × Option ℕ)) → come (g ∷ gs) ≡ cond (is_some g.1) 1 0 + come gs
come_first g gs = sum_by-cons (λ g. cond (is_some g.1) 1 0) g gs

room_is : (g : Option ℕ) → cond (is_some g) 1 0 ≡ room_for g
room_is None = refl
room_is (Some n) = refl

come_put : (x : Name) (g : Option ℕ) (gs : List (Name × Option ℕ)) → come (put name_cmp x g gs) ≤ come gs + room_for g
come_put x g [] = (let one : come ((x, g) ∷ []) ≡ cond (is_some g) 1 0 + 0 = come_first (x, g) [] in let room : cond (is_some g) 1 0 ≡ room_for g = room_is g in omega arith)
come_put x g (e ∷ gs) = by_cmp (come_put x g gs) (name_cmp x e.0)
  where
    by_cmp : come (put name_cmp x g gs) ≤ come gs + room_for g → (o : Ordering) → come (by_order o ((x, g) ∷ e ∷ gs) ((e.0, g) ∷ gs) (e ∷ put name_cmp x g gs)) ≤ come (e ∷ gs) + room_for g
    by_cmp rest Less = (let one : come ((x, g) ∷ e ∷ gs) ≡ cond (is_some g) 1 0 + come (e ∷ gs) = come_first (x, g) (e ∷ gs) in let room : cond (is_some g) 1 0 ≡ room_for g = room_is g in omega arith)
    by_cmp rest Equal = (
        let one : come ((e.0, g) ∷ gs) ≡ cond (is_some g) 1 0 + come gs = come_first (e.0, g) gs in
        let two : come (e ∷ gs) ≡ cond (is_some e.1) 1 0 + come gs = come_first e gs in
        let room : cond (is_some g) 1 0 ≡ room_for g = room_is g in omega arith)
    by_cmp rest Greater = (
        let one : come (e ∷ put name_cmp x g gs) ≡ cond (is_some e.1) 1 0 + come (put name_cmp x g gs) = come_first e (put name_cmp x g gs) in
        let two : come (e ∷ gs) ≡ cond (is_some e.1) 1 0 + come gs = come_first e gs in omega (arith, rest))

-- one note more is one name more at most
come_insert : (notes : Notes) (x : Name) (g : Option ℕ) → come (entries (insert notes x g)) ≤ come (entries notes) + room_for g
come_insert notes x g =
    let is : come (entries (insert notes x g)) ≡ come (put name_cmp x g (entries notes)) = ap come (entries-insert name_total notes x g) in
    let more : come (put name_cmp x g (entries notes)) ≤ come (entries notes) + room_for g = come_put x g (entries notes) in omega arith

pub none_added : added_by (Names true (empty {K = Name} {X = Option ℕ} {R = name_cmp})) ≡ 0
none_added = ap come (entries-empty name_cmp)

-- the contents after one note more, and after the first
pub named_more : (fresh : Bool) (notes new : Notes) (x : Name) (g : Option ℕ) (c : Contents) → c ≡ Names fresh notes → new ≡ insert notes x g
    → (o : Option Inode) → patched (Names fresh new) o ≡ name_noted x g (patched c o)
named_more fresh notes new x g c was is o =
    ap (λ (n : Notes). patched (Names fresh n) o) is
    ∙ ap (λ (names : FinMap name_cmp ℕ). Some (Directory names)) (laid_insert notes x g (names_before fresh o))
    ∙ ap (λ (d : Contents). name_noted x g (patched d o)) (sym was)

pub added_more : (fresh : Bool) (notes new : Notes) (x : Name) (g : Option ℕ) (c : Contents) → c ≡ Names fresh notes → new ≡ insert notes x g
    → added_by (Names fresh new) ≤ added_by c + room_for g
added_more fresh notes new x g c was is =
    let before : added_by c ≡ come (entries notes) = ap added_by was in
    let after : come (entries new) ≡ come (entries (insert notes x g)) = ap (λ (n : Notes). come (entries n)) is in
    let more : come (entries (insert notes x g)) ≤ come (entries notes) + room_for g = come_insert notes x g in omega arith

pub named_first : (fresh : Bool) (x : Name) (g : Option ℕ) (new : Contents) → new ≡ Names fresh (insert empty x g)
    → (o : Option Inode) → patched new o ≡ Some (Directory (with_note x g (names_before fresh o)))
named_first fresh x g new is o =
    ap (λ (d : Contents). patched d o) is
    ∙ ap (λ (names : FinMap name_cmp ℕ). Some (Directory names)) (laid_insert empty x g (names_before fresh o) ∙ ap (with_note x g) (laid_none (names_before fresh o)))

pub added_first : (fresh : Bool) (x : Name) (g : Option ℕ) (new : Contents) → new ≡ Names fresh (insert empty x g) → (n : ℕ) → added_by new ≤ n + room_for g
added_first fresh x g new is n =
    let after : added_by new ≡ come (entries (insert empty x g)) = ap added_by is in
    let more : come (entries (insert empty x g)) ≤ come (entries (empty {K = Name} {X = Option ℕ} {R = name_cmp})) + room_for g = come_insert empty x g in
    let none : come (entries (empty {K = Name} {X = Option ℕ} {R = name_cmp})) ≡ 0 = none_added in omega arith

-- the note that a name had before comes back
given_back : (b : Bool) (h g : Option ℕ) (o : Option (Option ℕ)) → (b ≡ true → o ≡ Some h) → cond b (Some h) (cond b (Some g) o) ≡ o
given_back true h g o same = sym (same refl)
given_back false h g o same = refl

none_back : (b : Bool) (g : Option ℕ) (o : Option (Option ℕ)) → (b ≡ true → o ≡ None) → cond b None (cond b (Some g) o) ≡ o
none_back true g o same = sym (same refl)
none_back false g o same = refl

same_name : (q x : Name) → eq_by_cmp name_cmp q x ≡ true → q ≡ x
same_name q x h = name_exact q x (tie (name_cmp q x) h)

noted_again : (notes : Notes) (x : Name) (g : Option ℕ) (former : Option (Option ℕ)) → get notes x ≡ former → note_back x former (insert notes x g) ≡ notes
noted_again notes x g (Some h) is = same_map name_total name_exact _ _ (λ q.
    get-insert name_total (insert notes x g) x h q
    ∙ ap (cond (eq_by_cmp name_cmp q x) (Some h)) (get-insert name_total notes x g q)
    ∙ given_back (eq_by_cmp name_cmp q x) h g (get notes q) (λ e. ap (get notes) (same_name q x e) ∙ is))
noted_again notes x g None is = same_map name_total name_exact _ _ (λ q.
    get-remove name_total (insert notes x g) x q
    ∙ ap (cond (eq_by_cmp name_cmp q x) None) (get-insert name_total notes x g q)
    ∙ none_back (eq_by_cmp name_cmp q x) g (get notes q) (λ e. ap (get notes) (same_name q x e) ∙ is))

pub taken_back : (notes : Notes) (x : Name) (g : Option ℕ) → noted_back x (get notes x) (insert notes x g) ≡ notes
taken_back notes x g = ap (λ now. back_over now x (get notes x) (insert notes x g)) (get-insert name_total notes x g x ∙ ap (λ r. cond (is_eq r) (Some g) (get notes x)) (tied_itself name_total x))
    ∙ noted_again notes x g (get notes x) refl
