use Rattle.std.proofs.Common.{◌≡◌, ◌≢◌, ℕ, ◌≤◌, nat_lt, Bool, true, false, not, Option, Some, None, is_some, refl, sym, ap, ◌∙◌, arith}
use Rattle.std.proofs.lemmas.Bool.{ltb-false, ltb-true}
use Rattle.model.specs.FiniteMap.{get}
use Rattle.model.specs.State.{Inode, Kind, kind, mapped}
use Rattle.model.specs.Changes.{is_reached, openings}
use Rattle.store.specs.Links.{links_in}
use Rattle.store.specs.Numbers.{Numbers}
use Rattle.store.specs.Shown.{inodes}
use Rattle.shadow.specs.Laid.{Holds}
use Rattle.shadow.specs.Stored.{Processes, state_of}
use Rattle.shadow.proofs.freeing.RemovedObjects.{bare_if_unreached, equal_by, frees_inode, named_reached, not_reached, open_reached, other_by, root_reached, some_by, stays_absent, stays_reached, zero_by}
use Rattle.shadow.proofs.closing.free.Goals as goal

-- whether there is an inode
there_by : (o : Option Inode) (k : Option Kind) → k ≡ mapped kind o → is_some k ≡ true → o ≢ None
there_by None k is some none = absurd (off (sym (ap is_some is) ∙ some))
  where
    off : false ≡ true → ⊥
    off e = cc
there_by (Some i) k is some none = absurd cc

absent_by : (o : Option Inode) (k : Option Kind) → k ≡ mapped kind o → is_some k ≡ false → o ≡ None
absent_by None k is none = refl
absent_by (Some i) k is none = absurd (on (sym (ap is_some is) ∙ none))
  where
    on : true ≡ false → ⊥
    on e = cc

-- what the code has tested of an inode
module _ (s : Numbers) (n : ℕ) (away : n ≢ s.root) (unnamed : links_in (inodes s) n ≡ 0) (opened : Bool) (is : (ps : Processes) → Holds ps s → opened ≡ nat_lt 0 (openings (state_of ps s) n)) (closed : opened ≡ false) where
  unreached : (ps : Processes) → Holds ps s → is_reached (state_of ps s) n ≡ false
  unreached ps holds =
      let none : openings (state_of ps s) n ≤ 0 = ltb-false 0 (openings (state_of ps s) n) (sym (is ps holds) ∙ closed) in
      not_reached (state_of ps s) n (λ e. away (e ∙ sym holds.root)) unnamed (omega arith)

pub returns-then-eq : goal.returns-then-eq
returns-then-eq c = λ ps holds. stays_reached ps c.args.store.now c.args.num holds
    (root_reached (state_of ps c.args.store.now) c.args.num (equal_by c.args.num c.root.result c.if-eq.ensures ∙ c.root.ensures ∙ holds.root))

pub returns-then-is_none : goal.returns-then-is_none
returns-then-is_none c = λ ps holds. stays_absent ps c.args.store.now c.args.num holds
    (absent_by (get (inodes c.args.store.now) c.args.num) c.kind.result c.kind.ensures (c.is_none.ensures ∙ ap not c.if-is_none.true))

pub returns-then-is_named : goal.returns-then-is_named
returns-then-is_named c = λ ps holds. stays_reached ps c.args.store.now c.args.num holds
    (named_reached (state_of ps c.args.store.now) c.args.num (some_by (links_in (inodes c.args.store.now) c.args.num) c.if-is_named.ensures))

pub is_open-requires-clause-there : goal.is_open-requires-clause-there
is_open-requires-clause-there c = there_by (get (inodes c.args.store.now) c.args.num) c.kind.result c.kind.ensures c.if-is_none.ensures

pub returns-then-is_open : goal.returns-then-is_open
returns-then-is_open c = λ ps holds.
    let s : Numbers = c.args.store.now in
    let n : ℕ = c.args.num in
    stays_reached ps s n holds (open_reached (state_of ps s) n (ltb-true 0 (openings (state_of ps s) n) (sym (c.is_open.ensures ps holds) ∙ c.if-is_open.true)))

pub lose-requires-clause-unnamed : goal.lose-requires-clause-unnamed
lose-requires-clause-unnamed c = zero_by (links_in (inodes c.args.store.now) c.args.num) c.if-is_named.ensures

pub lose-requires-clause-bare : goal.lose-requires-clause-bare
lose-requires-clause-bare c =
    let s : Numbers = c.args.store.now in
    let n : ℕ = c.args.num in
    bare_if_unreached (state_of c.requires.0 s) n c.requires.1.parented
    (unreached s n (λ e. other_by n c.root.result c.if-eq.ensures (e ∙ sym c.root.ensures)) (zero_by (links_in (inodes s) n) c.if-is_named.ensures) c.is_open.result c.is_open.ensures c.if-is_open.false c.requires.0 c.requires.1)

pub returns : goal.returns
returns c = λ ps holds.
    let s : Numbers = c.args.store.now in
    let n : ℕ = c.args.num in
    let there : get (inodes s) n ≢ None = there_by (get (inodes s) n) c.kind.result c.kind.ensures c.if-is_none.ensures in
    frees_inode ps s n holds there
    (unreached s n (λ e. other_by n c.root.result c.if-eq.ensures (e ∙ sym c.root.ensures)) (zero_by (links_in (inodes s) n) c.if-is_named.ensures) c.is_open.result c.is_open.ensures c.if-is_open.false ps holds)
    c.lose.new.self c.lose.ensures.lost
