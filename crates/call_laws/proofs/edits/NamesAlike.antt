-- Names that come, go and move, and new inodes, keep alike what is alike.
use Rattle.std.proofs.Common.{◌≡◌, ◌≢◌, ℕ, ◌+◌, Bool, true, false, cond, [], ◌++◌, length, get_or, Option, Some, None, refl, sym, ap, ap₂, ◌∙◌, arith, inl, inr}
use Rattle.std.specs.Ordering.{eq_by_cmp}
use Rattle.std.specs.Cmp.Lexicographic.{nat_list_cmp_total}
use Rattle.model.specs.FiniteMap.{FinMap, get, empty, insert, remove, keys, get-insert, get-remove}
use Rattle.std.proofs.lemmas.Bool.{cases_eq}
use Rattle.model.specs.State.{Name, name_cmp, Kind, A_directory, Kernel, Inode, kind, names_of, file_of, pipe_of, kind_of, entry_of, links, ends, mapped, names_of_inode, file_of_inode, pipe_of_inode, target_of_inode, rights_or, rights_of}
use Rattle.model.specs.Aspects.{Aspect, Entry, Names, Size, Block, Links, Ends, Offset, Front, Back, Target, Rights, Keeps}
use Rattle.model.specs.Changes.{set_inode, set_name, clear_name}
use Rattle.model.proofs.Laws.{keys-insert, keys-remove, name_exact, get_same, get_other, unchanged_by, given_in, links-set_inode}
use Rattle.call_laws.proofs.edits.Names.{with_kind, same_rest, has_names, one, counted, links_named, links_unnamed}
use Rattle.call_laws.proofs.edits.Contents.{here_by, there_by}
use Rattle.call_laws.proofs.Maps.{not_none}

given_named : (k : Kernel) (names : FinMap name_cmp ℕ) (x : Name) (n : ℕ) (y : Name) → with_kind k (get (insert names x n) y) ≡ cond (eq_by_cmp name_cmp y x) (Some (n, kind_of k n)) (with_kind k (get names y))
given_named k names x n y = ap (with_kind k) (get-insert nat_list_cmp_total names x n y) ∙ within (eq_by_cmp name_cmp y x)
  where
    within : (b : Bool) → with_kind k (cond b (Some n) (get names y)) ≡ cond b (Some (n, kind_of k n)) (with_kind k (get names y))
    within true = refl
    within false = refl

given_unnamed : (k : Kernel) (names : FinMap name_cmp ℕ) (x y : Name) → with_kind k (get (remove names x) y) ≡ cond (eq_by_cmp name_cmp y x) None (with_kind k (get names y))
given_unnamed k names x y = ap (with_kind k) (get-remove nat_list_cmp_total names x y) ∙ within (eq_by_cmp name_cmp y x)
  where
    within : (b : Bool) → with_kind k (cond b None (get names y)) ≡ cond b None (with_kind k (get names y))
    within true = refl
    within false = refl

abbrev pub number_in : Option (ℕ × Option Kind) → ℕ
number_in (Some place) = place.0
number_in None = 0

abbrev pub kind_in : Option (ℕ × Option Kind) → Option Kind
kind_in (Some place) = place.1
kind_in None = None

-- what is given alike is one number
pub same_given : (now later : Kernel) (o p : Option ℕ) → with_kind later p ≡ with_kind now o → p ≡ o
same_given now later None None h = refl
same_given now later (Some t) None h = absurd cc
same_given now later None (Some u) h = absurd cc
same_given now later (Some t) (Some u) h = ap Some (ap number_in h)

-- a name that comes, where it gave the same before
pub named_keeps : (now later : Kernel) (d : ℕ) (x : Name) (n : ℕ) → kind_of now d ≡ Some A_directory → kind_of later d ≡ Some A_directory → entry_of later d x ≡ entry_of now d x → kind_of later n ≡ kind_of now n → (a : Aspect) → Keeps now later a → Keeps (set_name d x n now) (set_name d x n later) a
named_keeps now later d x n f g alike same = same_rest now later d (insert (names_of now d) x n) (insert (names_of later d) x n) f g
    (λ y h. given_named later (names_of later d) x n y ∙ ap₂ (λ (what : Option Kind) (o : Option (ℕ × Option Kind)). cond (eq_by_cmp name_cmp y x) (Some (n, what)) o) same h ∙ sym (given_named now (names_of now d) x n y))
    (λ h. keys-insert nat_list_cmp_total name_exact (names_of later d) (names_of now d) x n n h)
    (λ m h.
    let p : links (set_name d x n later) m + counted m (get (names_of later d) x) ≡ links later m + one n m = links_named later d x n g m in
    let q : links (set_name d x n now) m + counted m (get (names_of now d) x) ≡ links now m + one n m = links_named now d x n f m in
    let o : counted m (get (names_of later d) x) ≡ counted m (get (names_of now d) x) = ap (counted m) (same_given now later (get (names_of now d) x) (get (names_of later d) x) alike) in
    omega arith)

-- a name that goes
pub unnamed_keeps : (now later : Kernel) (d : ℕ) (x : Name) → kind_of now d ≡ Some A_directory → kind_of later d ≡ Some A_directory → entry_of later d x ≡ entry_of now d x → (a : Aspect) → Keeps now later a → Keeps (clear_name d x now) (clear_name d x later) a
unnamed_keeps now later d x f g alike = same_rest now later d (remove (names_of now d) x) (remove (names_of later d) x) f g
    (λ y h. given_unnamed later (names_of later d) x y ∙ ap (λ (o : Option (ℕ × Option Kind)). cond (eq_by_cmp name_cmp y x) None o) h ∙ sym (given_unnamed now (names_of now d) x y))
    (λ h. keys-remove nat_list_cmp_total name_exact (names_of later d) (names_of now d) x h)
    (λ m h.
    let p : links (clear_name d x later) m + counted m (get (names_of later d) x) ≡ links later m = links_unnamed later d x g m in
    let q : links (clear_name d x now) m + counted m (get (names_of now d) x) ≡ links now m = links_unnamed now d x f m in
    let o : counted m (get (names_of later d) x) ≡ counted m (get (names_of now d) x) = ap (counted m) (same_given now later (get (names_of now d) x) (get (names_of later d) x) alike) in
    omega arith)

-- a new inode of no bytes and no names
pub record IsNew (k after : Kernel) (n : ℕ) (what : Kind) : Type 0 where
  pub names : (t : ℕ) → names_of after t ≡ names_of k t
  pub files : (t : ℕ) → file_of after t ≡ file_of k t
  pub pipes : (t : ℕ) → pipe_of after t ≡ pipe_of k t
  pub here : kind_of after n ≡ Some what
  pub there : (t : ℕ) → t ≢ n → kind_of after t ≡ kind_of k t
  pub links : (m : ℕ) → links after m ≡ links k m

pub is_new : (k : Kernel) (n : ℕ) (new : Inode) → get k.inodes n ≡ None → names_of_inode (Some new) ≡ empty → file_of_inode (Some new) ≡ [] → pipe_of_inode (Some new) ≡ [] → IsNew k (set_inode n new k) n (kind new)
is_new k n new none names file pipe =
    record {
      names = unchanged_by names_of_inode k n new (names ∙ sym (ap names_of_inode none));
      files = unchanged_by file_of_inode k n new (file ∙ sym (ap file_of_inode none));
      pipes = unchanged_by pipe_of_inode k n new (pipe ∙ sym (ap pipe_of_inode none));
      here = ap (mapped kind) (get_same k.inodes n new);
      there = λ t h. ap (mapped kind) (get_other k.inodes n t new h);
      links = λ m.
          let moved : links (set_inode n new k) m + given_in m (names_of k n) ≡ links k m + given_in m (names_of_inode (Some new)) = links-set_inode k n new m in
          let same : given_in m (names_of k n) ≡ given_in m (names_of_inode (Some new)) = ap (given_in m) (ap names_of_inode none ∙ sym names) in
          omega arith;
    }

new_kinds : (now now' later later' : Kernel) (n : ℕ) (what : Kind) → IsNew now now' n what → IsNew later later' n what → (o p : Option ℕ) → with_kind later p ≡ with_kind now o → with_kind later' p ≡ with_kind now' o
new_kinds now now' later later' n what f g None None h = refl
new_kinds now now' later later' n what f g (Some t) None h = absurd cc
new_kinds now now' later later' n what f g None (Some u) h = absurd cc
new_kinds now now' later later' n what f g (Some t) (Some u) h =
    let same : u ≡ t = ap number_in h in
    let before : kind_of later t ≡ kind_of now t = ap (kind_of later) (sym same) ∙ ap kind_in h in
    let kinds : kind_of later' u ≡ kind_of now' t = ap (kind_of later') same ∙ elim (cases_eq t n) [
      | inl is ↦ ap (kind_of later') is ∙ g.here ∙ sym (ap (kind_of now') is ∙ f.here)
      | inr away ↦ g.there t away ∙ before ∙ sym (f.there t away)
    ] in
    λ i. Some (same i, kinds i)

pub new_keeps : (now later : Kernel) (n : ℕ) (new : Inode) → IsNew now (set_inode n new now) n (kind new) → IsNew later (set_inode n new later) n (kind new) → get later.rights n ≡ get now.rights n → (a : Aspect) → Keeps now later a → Keeps (set_inode n new now) (set_inode n new later) a
unfolding ends
new_keeps now later n new f g set (Entry d x) h =
    ap (λ (ns : FinMap name_cmp ℕ). with_kind (set_inode n new later) (get ns x)) (g.names d)
    ∙ new_kinds now (set_inode n new now) later (set_inode n new later) n (kind new) f g (get (names_of now d) x) (get (names_of later d) x) h
    ∙ sym (ap (λ (ns : FinMap name_cmp ℕ). with_kind (set_inode n new now) (get ns x)) (f.names d))
new_keeps now later n new f g set (Names d) h = ap keys (g.names d) ∙ h ∙ sym (ap keys (f.names d))
new_keeps now later n new f g set (Size m) h = ap length (g.files m) ∙ h ∙ ap length (sym (f.files m))
new_keeps now later n new f g set (Block m block) h = λ i is. ap (λ bytes. get_or bytes i 0) (g.files m) ∙ h i is ∙ ap (λ bytes. get_or bytes i 0) (sym (f.files m))
new_keeps now later n new f g set (Links m) h = g.links m ∙ h ∙ sym (f.links m)
new_keeps now later n new f g set (Ends p) h = h
new_keeps now later n new f g set (Offset d) h = h
new_keeps now later n new f g set (Front p) h = (h.0, g.pipes p ∙ h.1 ∙ ap (λ bytes. bytes ++ h.0) (sym (f.pipes p)))
new_keeps now later n new f g set (Back p) h = (h.0, f.pipes p ∙ h.1 ∙ ap (λ bytes. h.0 ++ bytes) (sym (g.pipes p)))
new_keeps now later n new f g set (Target m) h =
    elim (cases_eq m n) [
      | inl is ↦ here_by target_of_inode later n new m is ∙ sym (here_by target_of_inode now n new m is)
      | inr away ↦ there_by target_of_inode later n new m away ∙ h ∙ sym (there_by target_of_inode now n new m away)
    ]
new_keeps now later n new f g set (Rights m) h =
    elim (cases_eq m n) [
      | inl is ↦ ap (rights_of (set_inode n new later)) is
          ∙ ap (λ o. rights_or o (kind_of (set_inode n new later) n)) set ∙ ap (rights_or (get now.rights n)) (g.here ∙ sym f.here)
          ∙ sym (ap (rights_of (set_inode n new now)) is)
      | inr away ↦ ap (rights_or (get later.rights m)) (g.there m away) ∙ h ∙ sym (ap (rights_or (get now.rights m)) (f.there m away))
    ]

-- a new inode with its name
pub made_keeps : (now later : Kernel) (d : ℕ) (x : Name) (n : ℕ) (new : Inode) → IsNew now (set_inode n new now) n (kind new) → IsNew later (set_inode n new later) n (kind new) → get later.rights n ≡ get now.rights n
    → kind_of (set_inode n new now) d ≡ Some A_directory → kind_of (set_inode n new later) d ≡ Some A_directory → entry_of later d x ≡ entry_of now d x
    → (a : Aspect) → Keeps now later a → Keeps (set_name d x n (set_inode n new now)) (set_name d x n (set_inode n new later)) a
made_keeps now later d x n new f g set e h alike a kept = named_keeps (set_inode n new now) (set_inode n new later) d x n e h (new_keeps now later n new f g set (Entry d x) alike) (g.here ∙ sym f.here) a (new_keeps now later n new f g set a kept)

-- what is of some kind is not the new one
pub not_new : (k : Kernel) (n t : ℕ) (what : Kind) → get k.inodes n ≡ None → kind_of k t ≡ Some what → t ≢ n
not_new k n t what none is e = not_none _ (sym is ∙ ap (kind_of k) e ∙ ap (mapped kind) none)

pub kept_kind : (k : Kernel) (n t : ℕ) (new : Inode) (what : Kind) → get k.inodes n ≡ None → kind_of k t ≡ Some what → kind_of (set_inode n new k) t ≡ Some what
kept_kind k n t new what none is = ap (mapped kind) (get_other k.inodes n t new (not_new k n t what none is)) ∙ is

-- a name that moves
pub moved_keeps : (now later : Kernel) (d : ℕ) (x : Name) (e : ℕ) (y : Name) (n : ℕ) → kind_of now d ≡ Some A_directory → kind_of later d ≡ Some A_directory → kind_of now e ≡ Some A_directory → kind_of later e ≡ Some A_directory
    → kind_of later n ≡ kind_of now n → entry_of later d x ≡ entry_of now d x → entry_of later e y ≡ entry_of now e y
    → (a : Aspect) → Keeps now later a → Keeps (set_name e y n (clear_name d x now)) (set_name e y n (clear_name d x later)) a
moved_keeps now later d x e y n f g f' g' same alike alike' a kept =
    let one = has_names now d (remove (names_of now d) x) f in
    let two = has_names later d (remove (names_of later d) x) g in
    named_keeps (clear_name d x now) (clear_name d x later) e y n (one.kinds e ∙ f') (two.kinds e ∙ g') (unnamed_keeps now later d x f g alike (Entry e y) alike') (two.kinds n ∙ same ∙ sym (one.kinds n)) a (unnamed_keeps now later d x f g alike a kept)

-- the kind of what both states give there
pub same_kind : (now later : Kernel) (d : ℕ) (x : Name) (n : ℕ) → get (names_of now d) x ≡ Some n → get (names_of later d) x ≡ Some n → entry_of later d x ≡ entry_of now d x → kind_of later n ≡ kind_of now n
same_kind now later d x n e f h = ap kind_in (ap (with_kind later) (sym f) ∙ h ∙ ap (with_kind now) e)
