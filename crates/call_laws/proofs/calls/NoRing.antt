-- A rename makes no ring: its test on the two paths sees to it.
use Rattle.std.proofs.Common.{◌≡◌, ℕ, suc, zero, ◌+◌, ◌≤◌, ◌<◌, Bool, true, false, cond, ◌&&◌, List, [], ◌∷◌, ◌++◌, length, Option, Some, None, IfOk, refl, sym, ap, ap₂, subst, ◌∙◌, arith, eq-eqb, length-append, append_assoc}
use Rattle.model.specs.FiniteMap.{get}
use Rattle.model.specs.State.{Name, Kind, A_file, A_directory, A_pipe, A_link, A_fifo, A_socket, Kernel, names_of, kind_of, entry_of, links}
use Rattle.model.specs.Changes.{clear_name}
use Rattle.model.specs.Plan.{Errno, ENOENT, given, ◌>>=◌, or_refuse}
use Rattle.model.specs.Walks.{Place, Last, last, last_of}
use Rattle.model.specs.Paths.{same_name, is_below}
use Rattle.call_laws.specs.WellFormed.{CanBeLinked, WellFormed, Leads}
use Rattle.call_laws.proofs.edits.Names.{with_kind, counted, links_unnamed, named_counted}
use Rattle.call_laws.proofs.edits.NamesAlike.{number_in}
use Rattle.call_laws.proofs.edits.InodeMarks.{linked_is_other}
use Rattle.call_laws.proofs.edits.NamesWell.{has_names_in}
use Rattle.call_laws.proofs.Maps.{true_is_false}
use Rattle.call_laws.proofs.calls.Rules.{weaken}
use Rattle.call_laws.proofs.edits.Tree.{place_or_other, clear_other, one_more, both_paths}

-- the names before the last lead to its directory
pub record IsLedTo (k : Kernel) (from : ℕ) (names : List Name) (at : Last) : Type 0 where
  pub way : List Name
  pub same : names ≡ way ++ (at.name ∷ [])
  pub leads : Leads k from way at.parent

pub by_entry : (k : Kernel) (d : ℕ) (x : Name) (place : Place) → entry_of k d x ≡ Some place → get (names_of k d) x ≡ Some place.0
by_entry k d x place e = by_number (get (names_of k d) x) e
  where
    by_number : (o : Option ℕ) → with_kind k o ≡ Some place → o ≡ Some place.0
    by_number None e = absurd cc
    by_number (Some n) e = ap Some (ap number_in e)

longer : (k : Kernel) (n : ℕ) (x : Name) (names : List Name) (place : Place) → entry_of k n x ≡ Some place → (at : Last) → IsLedTo k place.0 names at → IsLedTo k n (x ∷ names) at
longer k n x names place e at led = record { way = x ∷ led.way; same = ap (λ ns. x ∷ ns) led.same; leads = (place.0, by_entry k n x place e, led.leads) }

next_led : (k : Kernel) (n : ℕ) (x y : Name) (ys : List Name) → ((place : Place) → IfOk (given k (last place y ys)) (IsLedTo k place.0 (y ∷ ys))) → (o : Option Place) → entry_of k n x ≡ o → IfOk (given k (or_refuse ENOENT o >>= (λ next. last next y ys))) (IsLedTo k n (x ∷ y ∷ ys))
next_led k n x y ys h None e = tt
next_led k n x y ys h (Some place) e = weaken (given k (last place y ys)) (h place) (λ at led. longer k n x (y ∷ ys) place e at led)

last_led : (k : Kernel) (n : ℕ) (what : Option Kind) (x : Name) (xs : List Name) → IfOk (given k (last (n, what) x xs)) (IsLedTo k n (x ∷ xs))
last_led k n None x [] = tt
last_led k n None x (y ∷ ys) = tt
last_led k n (Some A_file) x [] = tt
last_led k n (Some A_file) x (y ∷ ys) = tt
last_led k n (Some A_pipe) x [] = tt
last_led k n (Some A_pipe) x (y ∷ ys) = tt
last_led k n (Some A_link) x [] = tt
last_led k n (Some A_link) x (y ∷ ys) = tt
last_led k n (Some A_fifo) x [] = tt
last_led k n (Some A_fifo) x (y ∷ ys) = tt
last_led k n (Some A_socket) x [] = tt
last_led k n (Some A_socket) x (y ∷ ys) = tt
last_led k n (Some A_directory) x [] = record { way = []; same = refl; leads = refl }
last_led k n (Some A_directory) x (y ∷ ys) = next_led k n x y ys (λ place. last_led k place.0 place.1 y ys) (entry_of k n x) refl

pub last_of_led : (k : Kernel) (e : Errno) (names : List Name) → IfOk (given k (last_of k.root e names)) (IsLedTo k k.root names)
last_of_led k e [] = tt
last_of_led k e (x ∷ xs) = last_led k k.root (Some A_directory) x xs

-- a directory is given by one name of one directory
one_entry : (k : Kernel) → WellFormed k → (b d c : ℕ) (x y : Name) → kind_of k b ≡ Some A_directory → get (names_of k d) x ≡ Some b → get (names_of k c) y ≡ Some b → (c ≡ d) × (y ≡ x)
one_entry k well b d c x y dir e f = place_or_other ((c ≡ d) × (y ≡ x)) c d y x (λ same names. (same, names)) (λ apart.
    let l : links k b ≤ 1 = well.one_name b dir in
    let is : kind_of k d ≡ Some A_directory = has_names_in k d x b e in
    let gone : links (clear_name d x k) b + counted b (get (names_of k d) x) ≡ links k b = links_unnamed k d x is b in
    let here : counted b (get (names_of k d) x) ≡ 1 = ap (counted b) e ∙ ap (λ (t : Bool). cond t 1 0) (eq-eqb b b refl) in
    let left : 0 < links (clear_name d x k) b = named_counted (clear_name d x k) c y b (clear_other k d x is c y apart ∙ f) in
    absurd (omega arith))

-- a path is empty, or has a last name
last_name : (P : Type 0) (k : Kernel) (a b : ℕ) (path : List Name) → Leads k a path b → (path ≡ [] → a ≡ b → P) → ((way : List Name) (x : Name) (m : ℕ) → path ≡ way ++ (x ∷ []) → Leads k a way m → get (names_of k m) x ≡ Some b → P) → P
last_name P k a b [] h f g = f refl h
last_name P k a b (x ∷ xs) h f g = last_name P k h.0 b xs h.2
    (λ none same. g [] x a (ap (λ xs. x ∷ xs) none) refl (h.1 ∙ ap Some same))
    (λ way z m e leads gives. g (x ∷ way) z m (ap (λ xs. x ∷ xs) e) (h.0, h.1, leads) gives)

root_not_given : (k : Kernel) → WellFormed k → (m : ℕ) (x : Name) (b : ℕ) → k.root ≡ b → get (names_of k m) x ≡ Some b → ⊥
root_not_given k well m x b same e =
    let some : 0 < links k k.root = named_counted k m x k.root (e ∙ ap Some (sym same)) in
    let none : links k k.root ≡ 0 = well.root_unnamed in
    absurd (omega arith)

-- two paths from the root to one directory, both empty or with one last name
by_ends : (k : Kernel) → WellFormed k → (b : ℕ) (p q : List Name) → kind_of k b ≡ Some A_directory → Leads k k.root p b → Leads k k.root q b
    → ((way other : List Name) (x : Name) (m : ℕ) → p ≡ way ++ (x ∷ []) → q ≡ other ++ (x ∷ []) → Leads k k.root way m → Leads k k.root other m → kind_of k m ≡ Some A_directory → p ≡ q) → p ≡ q
by_ends k well b p q dir h g f =
    last_name (p ≡ q) k k.root b p h
    (λ none same. last_name (p ≡ q) k k.root b q g (λ none' _. none ∙ sym none') (λ way x m e leads gives. absurd (root_not_given k well m x b same gives)))
    (λ way x m e leads gives. last_name (p ≡ q) k k.root b q g
    (λ _ same. absurd (root_not_given k well m x b same gives))
    (λ other y t e' leads' gives'.
    let same = one_entry k well b m t x y dir gives gives' in
    f way other x m e (e' ∙ ap (λ z. other ++ (z ∷ [])) same.1) leads (subst (λ t. Leads k k.root other t) same.0 leads') (has_names_in k m x b gives)))

-- two paths from the root to one directory are the same
pub one_path : (k : Kernel) → WellFormed k → (len b : ℕ) (p q : List Name) → length p ≤ len → kind_of k b ≡ Some A_directory → Leads k k.root p b → Leads k k.root q b → p ≡ q
one_path k well zero b p q short dir h g = by_ends k well b p q dir h g (λ way other x m e e' leads leads' is.
    absurd (let long : length p ≡ length way + 1 = ap length e ∙ length-append way (x ∷ []) in omega (arith, short)))
one_path k well (suc len) b p q short dir h g = by_ends k well b p q dir h g (λ way other x m e e' leads leads' is.
    let long : length p ≡ length way + 1 = ap length e ∙ length-append way (x ∷ []) in
    e ∙ ap (λ w. w ++ (x ∷ [])) (one_path k well len m way other (omega (arith, short)) is leads leads') ∙ sym e')

same_itself : (x : Name) → same_name x x ≡ true
same_itself [] = refl
same_itself (a ∷ rest) = ap₂ (λ (s : Bool) (t : Bool). s && t) (eq-eqb a a refl) (same_itself rest)

below : (xs path : List Name) (z : Name) → is_below xs (xs ++ (path ++ (z ∷ []))) ≡ true
below [] [] z = refl
below [] (y ∷ path) z = refl
below (x ∷ xs) path z = ap₂ (λ (s : Bool) (t : Bool). s && t) (same_itself x) (below xs path z)

-- where the second path does not go on from the first, nothing leads from what the first gives to where the second ends
pub no_ring_by_test : (k : Kernel) → WellFormed k → (from to : List Name) (at onto : Last) (n : ℕ) → IsLedTo k k.root from at → IsLedTo k k.root to onto → get (names_of k at.parent) at.name ≡ Some n → kind_of k onto.parent ≡ Some A_directory
    → is_below from to ≡ false → (path : List Name) → Leads k n path onto.parent → ⊥
no_ring_by_test k well from to at onto n led led_onto gives dir test path h =
    let first : List Name = led.way ++ (at.name ∷ []) in
    let to_n : Leads k k.root first n = one_more k k.root at.parent n at.name led.way led.leads gives in
    let all : Leads k k.root (first ++ path) onto.parent = both_paths k k.root n onto.parent first path to_n h in
    let same : led_onto.way ≡ first ++ path = one_path k well (length led_onto.way) onto.parent led_onto.way (first ++ path) (omega arith) dir led_onto.leads all in
    let whole : to ≡ first ++ (path ++ (onto.name ∷ [])) = led_onto.same ∙ ap (λ w. w ++ (onto.name ∷ [])) same ∙ append_assoc first path (onto.name ∷ []) in
    true_is_false (sym (below first path onto.name) ∙ ap₂ is_below (sym led.same) (sym whole) ∙ test)

-- what is no directory leads to none
pub no_ring_by_kind : (k : Kernel) (n e : ℕ) → CanBeLinked (kind_of k n) → kind_of k e ≡ Some A_directory → (path : List Name) → Leads k n path e → ⊥
no_ring_by_kind k n e linked dir [] h = linked_is_other k e n dir linked (sym h)
no_ring_by_kind k n e linked dir (x ∷ xs) h = linked_is_other k n n (has_names_in k n x h.0 h.1) linked refl
