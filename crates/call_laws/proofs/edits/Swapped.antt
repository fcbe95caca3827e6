-- Two names change places: what stays, what is alike after it, and that directories stay a tree.
use Rattle.std.proofs.Common.{◌≡◌, ◌≢◌, ℕ, ◌+◌, ◌≤◌, List, [], ◌∷◌, ◌++◌, length, Some, sym, ap, subst, ◌∙◌, arith, length-append}
use Rattle.model.specs.FiniteMap.{get, insert}
use Rattle.model.specs.State.{Name, A_directory, Kernel, names_of, kind_of, entry_of, links}
use Rattle.model.specs.Aspects.{Aspect, Entry, Links, Keeps}
use Rattle.model.specs.Changes.{set_name}
use Rattle.call_laws.specs.Objects.{LeavesAlone}
use Rattle.call_laws.specs.WellFormed.{CanBeNamed, IsRooted, Leads, WellFormed}
use Rattle.call_laws.proofs.Maps.{some_same}
use Rattle.call_laws.proofs.edits.Names.{has_names, one, counted, links_named}
use Rattle.call_laws.proofs.edits.NamesAlike.{named_keeps}
use Rattle.call_laws.proofs.edits.InodeMarks.{keeps_on, named_mark}
use Rattle.call_laws.proofs.edits.NamesWell.{NamesAreWell, set_gives}
use Rattle.call_laws.proofs.edits.Tree.{HasPaths, set_other, set_here, place_or_other, one_more, both_paths}
use Rattle.call_laws.proofs.calls.NoRing.{one_path}

-- the second name gives what it gave after the first gives that as well
pub still_given : (k : Kernel) (d : ℕ) (x : Name) (n e : ℕ) (y : Name) (m : ℕ) → kind_of k d ≡ Some A_directory → get (names_of k d) x ≡ Some n → get (names_of k e) y ≡ Some m → n ≢ m → get (names_of (set_name d x m k) e) y ≡ Some m
still_given k d x n e y m is gives gives_too apart =
    set_other k d x m is e y (λ same names. apart (some_same n m (sym gives ∙ ap (get (names_of k d)) (sym names) ∙ ap (λ a. get (names_of k a) y) (sym same) ∙ gives_too))) ∙ gives_too

-- The two names, each in a directory.
module _ (k : Kernel) (d : ℕ) (x : Name) (n e : ℕ) (y : Name) (m : ℕ) (is : kind_of k d ≡ Some A_directory) (is_too : kind_of k e ≡ Some A_directory) (gives : get (names_of k d) x ≡ Some n) (gives_too : get (names_of k e) y ≡ Some m) (apart : n ≢ m) where
  mid_kinds : (t : ℕ) → kind_of (set_name d x m k) t ≡ kind_of k t
  mid_kinds = (has_names k d (insert (names_of k d) x m) is).kinds

  mid_is : kind_of (set_name d x m k) e ≡ Some A_directory
  mid_is = mid_kinds e ∙ is_too

  pub swapped_kinds : (t : ℕ) → kind_of (set_name e y n (set_name d x m k)) t ≡ kind_of k t
  swapped_kinds t = (has_names (set_name d x m k) e (insert (names_of (set_name d x m k) e) y n) mid_is).kinds t ∙ mid_kinds t

  -- each object has as many names as before
  pub swapped_links : (t : ℕ) → links (set_name e y n (set_name d x m k)) t ≡ links k t
  swapped_links t =
      let first : links (set_name d x m k) t + counted t (get (names_of k d) x) ≡ links k t + one m t = links_named k d x m is t in
      let first_gave : counted t (get (names_of k d) x) ≡ one n t = ap (counted t) gives in
      let second : links (set_name e y n (set_name d x m k)) t + counted t (get (names_of (set_name d x m k) e) y) ≡ links (set_name d x m k) t + one n t = links_named (set_name d x m k) e y n mid_is t in
      let second_gave : counted t (get (names_of (set_name d x m k) e) y) ≡ one m t = ap (counted t) (still_given k d x n e y m is gives gives_too apart) in
      omega arith

  pub swapped_marks : (a : Aspect) → LeavesAlone (Entry d x) a → LeavesAlone (Entry e y) a → Keeps k (set_name e y n (set_name d x m k)) a
  swapped_marks (Links t) one two = swapped_links t
  swapped_marks a one two =
      keeps_on k (set_name d x m k) (set_name e y n (set_name d x m k)) a (named_mark k d x m is a tt one)
      (named_mark (set_name d x m k) e y n mid_is a tt two)

  -- what the first name gives now
  first_now : get (names_of (set_name e y n (set_name d x m k)) d) x ≡ Some m
  first_now =
      set_other (set_name d x m k) e y n mid_is d x (λ same names. apart (some_same n m (sym gives ∙ ap (λ a. get (names_of k a) x) same ∙ ap (get (names_of k e)) names ∙ gives_too)))
      ∙ set_here k d x m is

  -- A path goes as before, or what one of the names gave leads on from the last place where it went by that name.
  abbrev After : (Type 0) → ℕ → List Name → ℕ → Type 0
  After P a path b =
      (Leads (set_name e y n (set_name d x m k)) a path b → P)
      → ((rest : List Name) → Leads k n rest b → Leads (set_name e y n (set_name d x m k)) n rest b → P)
      → ((rest : List Name) → Leads k m rest b → Leads (set_name e y n (set_name d x m k)) m rest b → P) → P

  follows : (P : Type 0) (b a : ℕ) (path : List Name) → Leads k a path b → After P a path b
  follows P b a [] h f g i = f h
  follows P b a (z ∷ zs) h f g i =
      follows P b h.0 zs h.2
      (λ rest. place_or_other P a d z x
      (λ same names.
      let moved : h.0 ≡ n = some_same h.0 n (sym h.1 ∙ ap (λ a. get (names_of k a) z) same ∙ ap (get (names_of k d)) names ∙ gives) in
      g zs (subst (λ t. Leads k t zs b) moved h.2) (subst (λ t. Leads (set_name e y n (set_name d x m k)) t zs b) moved rest))
      (λ not_first. place_or_other P a e z y
      (λ same names.
      let moved : h.0 ≡ m = some_same h.0 m (sym h.1 ∙ ap (λ a. get (names_of k a) z) same ∙ ap (get (names_of k e)) names ∙ gives_too) in
      i zs (subst (λ t. Leads k t zs b) moved h.2) (subst (λ t. Leads (set_name e y n (set_name d x m k)) t zs b) moved rest))
      (λ not_second. f (h.0, set_other (set_name d x m k) e y n mid_is a z not_second ∙ set_other k d x m is a z not_first ∙ h.1, rest))))
      g i

pub swapped_keeps : (now later : Kernel) (d : ℕ) (x : Name) (n e : ℕ) (y : Name) (m : ℕ) → kind_of now d ≡ Some A_directory → kind_of later d ≡ Some A_directory → kind_of now e ≡ Some A_directory → kind_of later e ≡ Some A_directory
    → kind_of later n ≡ kind_of now n → kind_of later m ≡ kind_of now m → entry_of later d x ≡ entry_of now d x → entry_of later e y ≡ entry_of now e y
    → (a : Aspect) → Keeps now later a → Keeps (set_name e y n (set_name d x m now)) (set_name e y n (set_name d x m later)) a
swapped_keeps now later d x n e y m f g f' g' same same' alike alike' a kept =
    let one = has_names now d (insert (names_of now d) x m) f in
    let two = has_names later d (insert (names_of later d) x m) g in
    named_keeps (set_name d x m now) (set_name d x m later) e y n (one.kinds e ∙ f') (two.kinds e ∙ g') (named_keeps now later d x m f g alike same' (Entry e y) alike') (two.kinds n ∙ same ∙ sym (one.kinds n)) a (named_keeps now later d x m f g alike same' a kept)

pub swapped_names : (k : Kernel) (d : ℕ) (x : Name) (n e : ℕ) (y : Name) (m : ℕ) → WellFormed k → IsRooted k d → IsRooted k e → get (names_of k d) x ≡ Some n → get (names_of k e) y ≡ Some m → n ≢ m → NamesAreWell k (set_name e y n (set_name d x m k))
swapped_names k d x n e y m well first second gives gives_too apart =
    let mid : Kernel = set_name d x m k in
    let after : Kernel = set_name e y n mid in
    let mid_is : kind_of mid e ≡ Some A_directory = (has_names k d (insert (names_of k d) x m) first.directory).kinds e ∙ second.directory in
    let kinds : (t : ℕ) → kind_of after t ≡ kind_of k t = swapped_kinds k d x n e y m first.directory second.directory gives gives_too apart in
    let count : (t : ℕ) → links after t ≡ links k t = swapped_links k d x n e y m first.directory second.directory gives gives_too apart in
    record {
      root_unnamed = count k.root ∙ well.root_unnamed;
      named = λ t z b h. set_gives (CanBeNamed (kind_of after b)) mid e y n mid_is t z b
          (λ _ same. subst (λ b. CanBeNamed (kind_of after b)) same (subst CanBeNamed (sym (kinds n)) (well.names d x n gives)))
          (λ left. set_gives (CanBeNamed (kind_of after b)) k d x m first.directory t z b
          (λ _ same. subst (λ b. CanBeNamed (kind_of after b)) same (subst CanBeNamed (sym (kinds m)) (well.names e y m gives_too)))
          (λ old. subst CanBeNamed (sym (kinds b)) (well.names t z b old)) left) h;
      parent = λ t z b h. set_gives (links after t ≡ 0 → t ≡ k.root) mid e y n mid_is t z b
          (λ same _. subst (λ t. links after t ≡ 0 → t ≡ k.root) (sym same) (λ none. second.rooted (sym (count e) ∙ none)))
          (λ left. set_gives (links after t ≡ 0 → t ≡ k.root) k d x m first.directory t z b
          (λ same _. subst (λ t. links after t ≡ 0 → t ≡ k.root) (sym same) (λ none. first.rooted (sym (count d) ∙ none)))
          (λ old none. well.parents t z b old (sym (count t) ∙ none)) left) h;
      one_name = λ t dir. let l : links k t ≤ 1 = well.one_name t (sym (kinds t) ∙ dir) in let c : links after t ≡ links k t = count t in omega arith;
    }

-- nothing that a directory's name gives leads back to the directory
no_way_back : (k : Kernel) → WellFormed k → HasPaths k → (e : ℕ) (y : Name) (m : ℕ) (rest : List Name) → IsRooted k e → get (names_of k e) y ≡ Some m → Leads k m rest e → ⊥
no_way_back k well tree e y m rest rooted gives back =
    let way = tree.leads e rooted in
    let round : Leads k k.root (way.0 ++ (y ∷ rest)) e = both_paths k k.root e e way.0 (y ∷ rest) way.1 (m, gives, back) in
    let same : way.0 ≡ way.0 ++ (y ∷ rest) = one_path k well (length way.0) e way.0 (way.0 ++ (y ∷ rest)) (omega arith) rooted.directory way.1 round in
    let long : length way.0 ≡ length way.0 + length (y ∷ rest) = ap length same ∙ length-append way.0 (y ∷ rest) in
    absurd (omega arith)

pub swapped_tree : (k : Kernel) (d : ℕ) (x : Name) (n e : ℕ) (y : Name) (m : ℕ) → WellFormed k → IsRooted k d → IsRooted k e → get (names_of k d) x ≡ Some n → get (names_of k e) y ≡ Some m → n ≢ m
    → ((path : List Name) → Leads k n path e → ⊥) → ((path : List Name) → Leads k m path d → ⊥) → HasPaths k → HasPaths (set_name e y n (set_name d x m k))
swapped_tree k d x n e y m well first second gives gives_too apart no_ring no_ring_back tree = record {
  leads = λ b r.
      let dir : kind_of k b ≡ Some A_directory = sym (kinds b) ∙ r.directory in
      let path = tree.leads b (record { directory = dir; rooted = λ none. r.rooted (count b ∙ none) }) in
      follows k d x n e y m first.directory second.directory gives gives_too apart ((p : List Name) × Leads after k.root p b) b k.root path.0 path.1
      (λ h. (path.0, h))
      (λ rest _ h. ((to_second.0 ++ (y ∷ [])) ++ rest, both_paths after k.root n b (to_second.0 ++ (y ∷ [])) rest (one_more after k.root e n y to_second.0 to_second.1 (set_here mid e y n mid_there)) h))
      (λ rest _ h. ((to_first.0 ++ (x ∷ [])) ++ rest, both_paths after k.root m b (to_first.0 ++ (x ∷ [])) rest (one_more after k.root d m x to_first.0 to_first.1 (first_now k d x n e y m first.directory second.directory gives gives_too apart)) h));
}
  where
    mid : Kernel
    mid = set_name d x m k

    after : Kernel
    after = set_name e y n (set_name d x m k)

    mid_there : kind_of (set_name d x m k) e ≡ Some A_directory
    mid_there = (has_names k d (insert (names_of k d) x m) first.directory).kinds e ∙ second.directory

    kinds : (t : ℕ) → kind_of (set_name e y n (set_name d x m k)) t ≡ kind_of k t
    kinds = swapped_kinds k d x n e y m first.directory second.directory gives gives_too apart

    count : (t : ℕ) → links (set_name e y n (set_name d x m k)) t ≡ links k t
    count = swapped_links k d x n e y m first.directory second.directory gives gives_too apart

    -- the ways to the two directories go by neither name
    to_second : (p : List Name) × Leads (set_name e y n (set_name d x m k)) k.root p e
    to_second =
        let way = tree.leads e second in
        follows k d x n e y m first.directory second.directory gives gives_too apart ((p : List Name) × Leads (set_name e y n (set_name d x m k)) k.root p e) e k.root way.0 way.1
        (λ h. (way.0, h)) (λ rest back _. absurd (no_ring rest back)) (λ rest back _. absurd (no_way_back k well tree e y m rest second gives_too back))

    to_first : (p : List Name) × Leads (set_name e y n (set_name d x m k)) k.root p d
    to_first =
        let way = tree.leads d first in
        follows k d x n e y m first.directory second.directory gives gives_too apart ((p : List Name) × Leads (set_name e y n (set_name d x m k)) k.root p d) d k.root way.0 way.1
        (λ h. (way.0, h)) (λ rest back _. absurd (no_way_back k well tree d x n rest first gives back)) (λ rest back _. absurd (no_ring_back rest back))
