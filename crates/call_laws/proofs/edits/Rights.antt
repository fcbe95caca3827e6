-- The rights of an inode are set.
use Rattle.std.proofs.Common.{◌≡◌, ◌≢◌, ℕ, [], Option, Some, None, refl, sym, ap, ◌∙◌, append-nil, inl, inr}
use Rattle.model.specs.FiniteMap.{get}
use Rattle.std.proofs.lemmas.Bool.{cases_eq}
use Rattle.model.specs.State.{Rights as Rights_of_inode, Kernel, kind, mapped, kind_of, pipe_of, rights_or, rights_of, links, ends}
use Rattle.model.specs.Aspects.{Aspect, Entry, Names, Size, Block, Links, Ends, Offset, Front, Back, Target, Rights, Keeps}
use Rattle.model.specs.Changes.{set_rights}
use Rattle.model.proofs.Laws.{get_same, get_other}
use Rattle.call_laws.specs.WellFormed.{WellFormed}

-- of an inode that is not there none are set
pub unset : (k : Kernel) (n : ℕ) → WellFormed k → get k.inodes n ≡ None → get k.rights n ≡ None
unset k n well no_inode = by_rights (get k.rights n) refl
  where
    by_rights : (x : Option Rights_of_inode) → get k.rights n ≡ x → x ≡ None
    by_rights None e = refl
    by_rights (Some set) e = absurd (well.rights n set e (ap (mapped kind) no_inode))

rights_here : (k : Kernel) (n : ℕ) (rights : Rights_of_inode) (m : ℕ) → m ≡ n → rights_of (set_rights n rights k) m ≡ rights
rights_here k n rights m is = ap (rights_of (set_rights n rights k)) is ∙ ap (λ o. rights_or o (kind_of k n)) (get_same k.rights n rights)

rights_there : (k : Kernel) (n : ℕ) (rights : Rights_of_inode) (m : ℕ) → m ≢ n → rights_of (set_rights n rights k) m ≡ rights_of k m
rights_there k n rights m away = ap (λ o. rights_or o (kind_of k m)) (get_other k.rights n m rights away)

-- what is alike stays so
pub rights_keep : (now later : Kernel) (n : ℕ) (rights : Rights_of_inode) (a : Aspect) → Keeps now later a → Keeps (set_rights n rights now) (set_rights n rights later) a
unfolding links ends
rights_keep now later n rights (Entry t x) h = h
rights_keep now later n rights (Names t) h = h
rights_keep now later n rights (Size m) h = h
rights_keep now later n rights (Block m block) h = h
rights_keep now later n rights (Links m) h = h
rights_keep now later n rights (Ends p) h = h
rights_keep now later n rights (Offset t) h = h
rights_keep now later n rights (Front p) h = h
rights_keep now later n rights (Back p) h = h
rights_keep now later n rights (Target m) h = h
rights_keep now later n rights (Rights m) h =
    elim (cases_eq m n) [
      | inl is ↦ rights_here later n rights m is ∙ sym (rights_here now n rights m is)
      | inr away ↦ rights_there later n rights m away ∙ h ∙ sym (rights_there now n rights m away)
    ]

-- of what is there only they change
pub rights_mark : (k : Kernel) (n : ℕ) (rights : Rights_of_inode) (a : Aspect) → Rights n ≢ a → Keeps k (set_rights n rights k) a
unfolding links ends
rights_mark k n rights (Entry t x) alone = refl
rights_mark k n rights (Names t) alone = refl
rights_mark k n rights (Size m) alone = refl
rights_mark k n rights (Block m block) alone = λ i is. refl
rights_mark k n rights (Links m) alone = refl
rights_mark k n rights (Ends p) alone = (refl, refl)
rights_mark k n rights (Offset t) alone = refl
rights_mark k n rights (Front p) alone = ([], sym (append-nil (pipe_of k p)))
rights_mark k n rights (Back p) alone = ([], refl)
rights_mark k n rights (Target m) alone = refl
rights_mark k n rights (Rights m) alone = rights_there k n rights m (λ same. alone (ap Rights (sym same)))
