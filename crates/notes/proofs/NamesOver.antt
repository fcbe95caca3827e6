-- What is told of a directory's names with notes on top.
use Rattle.std.proofs.Common.{◌≡◌, ℕ, suc, ◌==◌, Bool, true, List, [], ◌∷◌, length, map, Option, Result, Ok, Err, IfOk, refl, sym, ap, ◌∙◌, ne_eqb, arith}
use Rattle.model.specs.FiniteMap.{FinMap, entries, get, keys, len, empty, len-entries, entries-empty}
use Rattle.model.specs.State.{Name, name_cmp, Inode, names_of_inode}
use Rattle.model.specs.Paths.{is_empty}
use Rattle.dirlist.specs.Patches.{IsLaid, Notes, or_before}
use Rattle.store.specs.Laid.{laid}
use Rattle.store.proofs.Laws.{laid_is}
use Rattle.notes.specs.Patches.{names_before, patched}
use Rattle.notes.specs.declared.change.Contents.{Contents}
use Rattle.notes.specs.declared.change.Contents.TheVariants.{Names}

-- the names of a directory with notes on top
is_laid : (fresh : Bool) (notes : Notes) (dir : FinMap name_cmp ℕ) (o : Option Inode) → names_before fresh o ≡ dir → IsLaid notes dir (laid (entries notes) (names_before fresh o))
is_laid fresh notes dir o is x = laid_is notes (names_before fresh o) x ∙ ap (λ names. or_before (get notes x) (get names x)) is

abbrev pub AreBefore : Bool → FinMap name_cmp ℕ → FinMap name_cmp ℕ → Type 0
AreBefore fresh stored dir = (o : Option Inode) → names_of_inode o ≡ stored → names_before fresh o ≡ dir

pub keys_told : {E : Type 0} (contents : Contents) (fresh : Bool) (notes : Notes) (stored dir : FinMap name_cmp ℕ) (r : Result (List Name) E) → contents ≡ Names fresh notes → AreBefore fresh stored dir → IfOk r (λ list. (names : FinMap name_cmp ℕ) → IsLaid notes dir names → list ≡ keys names) → IfOk r (λ list. (o : Option Inode) → names_of_inode o ≡ stored → list ≡ keys (names_of_inode (patched contents o)))
keys_told contents fresh notes stored dir (Err e) is before told = tt
keys_told contents fresh notes stored dir (Ok list) is before told = λ o same. told (laid (entries notes) (names_before fresh o)) (is_laid fresh notes dir o (before o same)) ∙ ap (λ c. keys (names_of_inode (patched c o))) (sym is)

pub given_told : (contents : Contents) (fresh : Bool) (notes : Notes) (x : Name) (noted : Option (Option ℕ)) (stored found : Option ℕ) → contents ≡ Names fresh notes → noted ≡ get notes x → ((o : Option Inode) → get (names_of_inode o) x ≡ stored → found ≡ or_before noted (get (names_before fresh o) x)) → (o : Option Inode) → get (names_of_inode o) x ≡ stored → found ≡ get (names_of_inode (patched contents o)) x
given_told contents fresh notes x noted stored found is look told o same =
    told o same ∙ ap (λ n. or_before n (get (names_before fresh o) x)) look ∙ sym (laid_is notes (names_before fresh o) x)
    ∙ ap (λ c. get (names_of_inode (patched c o)) x) (sym is)

-- no names are no names
pub no_keys : (names : FinMap name_cmp ℕ) → (len names == 0) ≡ is_empty (keys names)
no_keys names = ap (λ n. n == 0) (len-entries names) ∙ by_list (entries names)
  where
    by_list : (es : List (Name × ℕ)) → (length es == 0) ≡ is_empty (map (λ e. e.0) es)
    by_list [] = refl
    by_list (e ∷ es) = ne_eqb (suc (length es)) 0 (λ h. absurd (omega (arith, h)))

pub empty_has_none : true ≡ is_empty (keys (empty {X = ℕ} {R = name_cmp}))
empty_has_none = ap (λ (es : List (Name × ℕ)). is_empty (map (λ e. e.0) es)) (sym (entries-empty name_cmp))

pub empty_told : (contents : Contents) (fresh : Bool) (notes : Notes) (stored dir : FinMap name_cmp ℕ) (b : Bool) → contents ≡ Names fresh notes → AreBefore fresh stored dir → ((names : FinMap name_cmp ℕ) → IsLaid notes dir names → b ≡ (len names == 0)) → (o : Option Inode) → names_of_inode o ≡ stored → b ≡ is_empty (keys (names_of_inode (patched contents o)))
empty_told contents fresh notes stored dir b is before told o same =
    told (laid (entries notes) (names_before fresh o)) (is_laid fresh notes dir o (before o same)) ∙ no_keys (laid (entries notes) (names_before fresh o))
    ∙ ap (λ c. is_empty (keys (names_of_inode (patched c o)))) (sym is)
