use Rattle.std.proofs.Common.{◌≡◌, ◌∙◌, ◌||◌, nat_lt, ℕ, Bool, true, false, Some, sym, ap}
use Rattle.model.specs.FiniteMap.{get}
use Rattle.freeing_laws.specs.Pipes.{is_of}
use Rattle.store.specs.Numbers.{Numbers, object_at}
use Rattle.store.specs.Shown.{descriptions}
use Rattle.store.specs.declared.OpenPipe.{OpenPipe}
use Rattle.store.specs.declared.Object.TheVariants.{Pipe as Kept_pipe}
use Rattle.shadow.proofs.freeing.OpenInodes.{others_open, pipe_open, pipe_there}
use Rattle.shadow.proofs.closing.is_open.Goals as goal

pub returns-then-is_of : goal.returns-then-is_of
returns-then-is_of c = λ ps holds.
    let s : Numbers = c.args.store.now in
    let n : ℕ = c.args.num in
    let pipe : OpenPipe = c.in-Some.pipe.now in
    let there : object_at s n ≡ Some (Kept_pipe pipe) = pipe_there (object_at s n) pipe c.in-Some.ensures.pipe in
    let writer : Bool = is_of n (get (descriptions s) pipe.writer) in
    let reader : is_of n (get (descriptions s) pipe.reader) ≡ true = ap (is_of n) (sym c.description.ensures) ∙ sym c.is_of.ensures ∙ c.if-is_of.true in
    c.if-is_of.true ∙ sym (ap (λ b. b || writer) reader) ∙ pipe_open ps s n holds pipe there

pub returns-else-is_of : goal.returns-else-is_of
returns-else-is_of c = λ ps holds.
    let s : Numbers = c.args.store.now in
    let n : ℕ = c.args.num in
    let pipe : OpenPipe = c.in-Some.pipe.now in
    let there : object_at s n ≡ Some (Kept_pipe pipe) = pipe_there (object_at s n) pipe c.in-Some.ensures.pipe in
    let writer : Bool = is_of n (get (descriptions s) pipe.writer) in
    let reader : is_of n (get (descriptions s) pipe.reader) ≡ false = ap (is_of n) (sym c.description.ensures) ∙ sym c.is_of.ensures ∙ c.if-is_of.false in
    c.is_of-else-is_of.ensures ∙ ap (is_of n) c.description-else-is_of.ensures ∙ sym (ap (λ b. b || writer) reader) ∙ pipe_open ps s n holds pipe there

pub returns-in-None : goal.returns-in-None
returns-in-None c = λ ps holds. ap (nat_lt 0) (c.openings.ensures ∙ others_open ps c.args.store.now c.args.num holds c.requires.there (sym c.in-None.ensures.pipe))
