-- One more operation of a worker.
use Rattle.std.proofs.Common.{◌≡◌, ℕ, ◌++◌, List, [], ◌∷◌, Bool, false, Option, Some, None, sym, ap, ◌∙◌, refl, append_assoc, append-nil, subst}
use Rattle.std.specs.Prelude.{if◌then◌else◌}
use Rattle.ids.specs.declared.call.Op.{Op}
use Rattle.ids.specs.declared.reply.Reply.{Reply}
use Rattle.workers.specs.declared.worker.Event.{Event}
use Rattle.workers.specs.declared.worker.Event.TheVariants.{Ended, Forked, Stopped}
use Rattle.workers.specs.Events.{Comes, IsBorn}
use Rattle.workers.specs.Port.{child_reply, fork, grown, is_refusal}
use Rattle.workers.specs.Rules.{Position, after, asked, start}
use Rattle.workers.specs.Work.{AreAsked, IsWork, Stands, position_after}
use Rattle.workers.specs.Families.{child_of, children}

pub position_after-push : (position : Position) (done : List (Op × Reply)) (one : Op × Reply)
    → position_after position (done ++ one ∷ []) ≡ after (position_after position done) one.1
position_after-push position [] one = refl
position_after-push position (first ∷ rest) one = position_after-push (after position first.1) rest one

pub AreAsked-push : (position : Position) (done : List (Op × Reply)) (one : Op × Reply)
    → AreAsked position done → asked (position_after position done) ≡ Some one.0 → AreAsked position (done ++ one ∷ [])
AreAsked-push position [] one each next = (next, tt)
AreAsked-push position (first ∷ rest) one each next = (each.0, AreAsked-push (after position first.1) rest one each.1 next)

pub children-push : (done : List (Op × Reply)) (one : Op × Reply) → children (done ++ one ∷ []) ≡ children done ++ (child_of one.0 one.1 ++ [])
children-push [] one = refl
children-push (first ∷ rest) one =
    ap (λ (xs : List ℕ). child_of first.0 first.1 ++ xs) (children-push rest one)
    ∙ sym (append_assoc (child_of first.0 first.1) (children rest) (child_of one.0 one.1 ++ []))

-- A worker that has done one operation more stands where its reply sends it.
pub Stands-push : {lines : List Op} {done : List (Op × Reply)} {position : Position} (operation : Op) (r : Reply)
    → Stands lines done position → asked position ≡ Some operation
    → Stands lines (done ++ (operation, r) ∷ []) (after position r)
Stands-push {lines} {done} {position} operation r s next = record {
  each = AreAsked-push (start lines) done (operation, r) s.each (ap asked s.there ∙ next);
  there = position_after-push (start lines) done (operation, r) ∙ ap (λ (p : Position). after p r) s.there;
}

-- A worker of whom nothing is asked has done its work.
pub Stands-whole : {lines : List Op} {done : List (Op × Reply)} {position : Position} → Stands lines done position → asked position ≡ None → IsWork lines done
Stands-whole s next = record { each = s.each; whole = ap asked s.there ∙ next }

-- A worker stands before its first line.
pub Stands-start : (lines : List Op) → Stands lines [] (start lines)
Stands-start lines = record { each = tt; there = refl }

-- an operation that made no child
pub goes_on : {lines : List Op} {before done : List (Op × Reply)} {position after_it : Position} (operation : Op) (r : Reply)
    → Stands lines before position → asked position ≡ Some operation → is_refusal r ≡ false → after_it ≡ after position r
    → child_of operation r ≡ [] → done ≡ grown before operation r
    → Stands lines done after_it × (children done ≡ children before)
goes_on {lines} {before} {done} {position} {after_it} operation r stands next entry there childless is =
    let list : done ≡ before ++ (operation, r) ∷ [] = is ∙ ap (λ (b : Bool). if b then before else before ++ (operation, r) ∷ []) entry in
    let S : List (Op × Reply) → Type 0 = λ d. Stands lines d after_it in
    let T : Position → Type 0 = λ p. Stands lines (before ++ (operation, r) ∷ []) p in (
      subst S (sym list) (subst T (sym there) (Stands-push operation r stands next)),
      ap children list
          ∙ children-push before (operation, r)
          ∙ ap (λ (xs : List ℕ). children before ++ (xs ++ [])) childless
          ∙ append-nil (children before),
    )

-- a fork that made a child
pub bears : {P H : Type 0} {number : P → ℕ} {home : P → H} {done : P → List (Op × Reply)} {h : H} {lines : List Op} {old new : List (Op × Reply)} {position after_it : Position}
    {operation : Op} {pid : ℕ} {child : P}
    → Stands lines old position → asked position ≡ Some operation → IsBorn number home done h operation old new pid child → after_it ≡ after position (child_reply pid)
    → Stands lines new after_it × (children new ≡ children old ++ pid ∷ [])
bears {P} {H} {number} {home} {done} {h} {lines} {old} {new} {position} {after_it} {operation} {pid} {child} stands next born there =
    let S : List (Op × Reply) → Type 0 = λ d. Stands lines d after_it in
    let T : Position → Type 0 = λ p. Stands lines (old ++ (fork, child_reply pid) ∷ []) p in (
      subst S (sym born.list) (subst T (sym there) (Stands-push fork (child_reply pid) stands (next ∙ ap Some born.is_fork))),
      ap children born.list ∙ children-push old (fork, child_reply pid),
    )

-- what comes after some operations that made no child
pub comes-later : {P H : Type 0} (number : P → ℕ) (home : P → H) (done : P → List (Op × Reply)) (h : H) (lines : List Op) (old mid new : List (Op × Reply)) (position : Position) (event : Option (Event P))
    → children mid ≡ children old → Comes number home done h lines mid new position event → Comes number home done h lines old new position event
comes-later number home done h lines old mid new position None e comes = (comes.0, comes.1 ∙ e)
comes-later number home done h lines old mid new position (Some Ended) e comes = (comes.0, comes.1 ∙ e)
comes-later number home done h lines old mid new position (Some (Forked pid child)) e comes =
    (comes.0, comes.1 ∙ ap (λ (xs : List ℕ). xs ++ pid ∷ []) e, comes.2, comes.3, comes.4)
comes-later number home done h lines old mid new position (Some (Stopped fault)) e comes = comes
