-- A number that is nowhere: it stays so, and all its aspects are alike.
use Rattle.std.proofs.Common.{◌≡◌, ℕ, Bool, false, ◌&&◌, List, [], length, get_or, Option, Some, None, count_by, refl, sym, ap, subst, ◌∙◌, ne_eqb, append-nil, inl, inr}
use Rattle.std.specs.Cmp.{nat_cmp_total}
use Rattle.model.specs.FiniteMap.{FinMap, get, empty, keys, values, get-empty}
use Rattle.model.specs.State.{Name, name_cmp, Kernel, Inode, Description, kind, mapped, kind_of, names_of, file_of, pipe_of, target_of, names_of_inode, file_of_inode, pipe_of_inode, target_of_inode, rights_or, rights_of, entry_of, links, ends, is_end, offset_in}
use Rattle.model.specs.Aspects.{Aspect, Entry, Names, Size, Block, Links, Ends, Offset, Front, Back, Target, Rights, Keeps}
use Rattle.model.specs.Steps.{IsNowhere}
use Rattle.model.specs.Moments.{is_in}
use Rattle.call_laws.specs.WellFormed.{CanBeNamed, CanBeOpened, WellFormed}
use Rattle.call_laws.specs.CallLaws.{object_of}
use Rattle.call_laws.proofs.Maps.{not_none, true_is_false, sum-zero}
use Rattle.call_laws.proofs.edits.Names.{with_kind}
use Rattle.call_laws.proofs.edits.Ends.{held-none}
use Rattle.call_laws.proofs.edits.NamesWell.{none_count}
use Rattle.call_laws.proofs.edits.Rights.{unset}
use Rattle.call_laws.proofs.law.There.{Grows}

pub nowhere_stays : (chosen : List ℕ) (k after : Kernel) → Grows chosen k after → WellFormed after → (n : ℕ) → is_in n chosen ≡ false → IsNowhere k n → IsNowhere after n
nowhere_stays chosen k after grows well n out nowhere = record {
  inode = no_inode;
  rights = unset after n well no_inode;
  description = no_description;
  unnamed = λ d x e. subst CanBeNamed (ap (mapped kind) no_inode) (well.names d x n e);
  unheld = λ pid f e. let there = well.slots pid f n e in not_none there.0 (sym there.1 ∙ no_description);
}
  where
    no_inode : get after.inodes n ≡ None
    no_inode = by_inode (get after.inodes n) refl
      where
        by_inode : (x : Option Inode) → get after.inodes n ≡ x → x ≡ None
        by_inode None e = refl
        by_inode (Some inode) e = elim (grows.old_kinds n (kind inode) (ap (mapped kind) e)) [
          | inl was ↦ absurd (not_none (kind inode) (sym was ∙ ap (mapped kind) nowhere.inode))
          | inr listed ↦ absurd (true_is_false (sym listed ∙ out))
        ]

    no_description : get after.descriptions n ≡ None
    no_description = by_description (get after.descriptions n) refl
      where
        by_description : (x : Option Description) → get after.descriptions n ≡ x → x ≡ None
        by_description None e = refl
        by_description (Some it) e = elim (grows.old_descriptions n (λ none. not_none it (sym e ∙ none))) [
          | inl was ↦ absurd (was nowhere.description)
          | inr listed ↦ absurd (true_is_false (sym listed ∙ out))
        ]

-- a pipe that is nowhere has no ends
no_ends : (k : Kernel) → WellFormed k → (p : ℕ) → IsNowhere k p → (mode : Description → Bool) → ends k p mode ≡ 0
unfolding ends
no_ends k well p nowhere mode = sum-zero nat_cmp_total (λ process. count_by (λ d. is_end mode p (get k.descriptions d)) (values process.table)) k.processes (λ pid process e.
    held-none k p mode process.table (λ f d is. by_description d (get k.descriptions d) refl))
  where
    by_description : (d : ℕ) (x : Option Description) → get k.descriptions d ≡ x → is_end mode p x ≡ false
    by_description d None e = refl
    by_description d (Some it) e = ap (λ b. b && mode it) (ne_eqb it.inode p (λ same. subst CanBeOpened (ap (kind_of k) same ∙ ap (mapped kind) nowhere.inode) (well.descriptions d it e)))

no_links : (k : Kernel) (n : ℕ) → IsNowhere k n → links k n ≡ 0
no_links k n nowhere = none_count k n nowhere.unnamed

no_names : (k : Kernel) (n : ℕ) → IsNowhere k n → names_of k n ≡ empty
no_names k n nowhere = ap names_of_inode nowhere.inode

no_file : (k : Kernel) (n : ℕ) → IsNowhere k n → file_of k n ≡ []
no_file k n nowhere = ap file_of_inode nowhere.inode

no_pipe : (k : Kernel) (n : ℕ) → IsNowhere k n → pipe_of k n ≡ []
no_pipe k n nowhere = ap pipe_of_inode nowhere.inode

no_target : (k : Kernel) (n : ℕ) → IsNowhere k n → target_of k n ≡ []
no_target k n nowhere = ap target_of_inode nowhere.inode

no_rights : (k : Kernel) (n : ℕ) → IsNowhere k n → rights_of k n ≡ rights_or None None
no_rights k n nowhere = ap (λ o. rights_or o (kind_of k n)) nowhere.rights ∙ ap (rights_or None) (ap (mapped kind) nowhere.inode)

no_entry : (k : Kernel) (d : ℕ) (x : Name) → IsNowhere k d → entry_of k d x ≡ None
no_entry k d x nowhere = ap (with_kind k) (ap (λ (ns : FinMap name_cmp ℕ). get ns x) (no_names k d nowhere) ∙ get-empty name_cmp x)

pub nowhere_alike : (k l : Kernel) (a : Aspect) → WellFormed k → WellFormed l → IsNowhere k (object_of a) → IsNowhere l (object_of a) → Keeps k l a
nowhere_alike k l (Entry d x) well well_too f g = no_entry l d x g ∙ sym (no_entry k d x f)
nowhere_alike k l (Names d) well well_too f g = ap keys (no_names l d g ∙ sym (no_names k d f))
nowhere_alike k l (Size n) well well_too f g = ap length (no_file l n g ∙ sym (no_file k n f))
nowhere_alike k l (Block n block) well well_too f g = λ i is. ap (λ bytes. get_or bytes i 0) (no_file l n g ∙ sym (no_file k n f))
nowhere_alike k l (Links n) well well_too f g = no_links l n g ∙ sym (no_links k n f)
nowhere_alike k l (Ends p) well well_too f g = (
  no_ends l well_too p g (λ d. d.reading) ∙ sym (no_ends k well p f (λ d. d.reading)),
  no_ends l well_too p g (λ d. d.writing) ∙ sym (no_ends k well p f (λ d. d.writing)),
)
nowhere_alike k l (Offset d) well well_too f g = ap offset_in (g.description ∙ sym f.description)
nowhere_alike k l (Front p) well well_too f g = ([], no_pipe l p g ∙ sym (no_pipe k p f) ∙ sym (append-nil (pipe_of k p)))
nowhere_alike k l (Back p) well well_too f g = ([], no_pipe k p f ∙ sym (no_pipe l p g))
nowhere_alike k l (Target n) well well_too f g = no_target l n g ∙ sym (no_target k n f)
nowhere_alike k l (Rights n) well well_too f g = no_rights l n g ∙ sym (no_rights k n f)
