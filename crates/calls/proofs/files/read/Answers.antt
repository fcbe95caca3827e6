use Rattle.std.proofs.Common.{[], sym, ap, ◌∙◌, ◌==◌, if◌then◌else◌}
use Rattle.std.proofs.lemmas.Bool.{ne_eqb}
use Rattle.model.specs.Plans.{unchanged, read_some}
use Rattle.model.specs.Calls.{Bytes}
use Rattle.calls.specs.Parts.{some_of_pipe, some_of_file}
use Rattle.walk.proofs.Laws.{goes, stops, via}
use Rattle.calls.proofs.files.read.Goals as goal

pub returns-in_err-it : goal.returns-in_err-it
returns-in_err-it g c = stops _ c.from_residual.ensures.1 (c.in_err-it.ensures _)

pub returns-in_err-refuse_if : goal.returns-in_err-refuse_if
returns-in_err-refuse_if g c = goes _ (c.in_ok-it.ensures _) (stops _ c.from_residual-in_err-refuse_if.ensures.1 (c.in_err-refuse_if.ensures _ _))

pub returns-then-count-eq0 : goal.returns-then-count-eq0
returns-then-count-eq0 g c = goes _ (c.in_ok-it.ensures _) (goes _ (c.in_ok-refuse_if.ensures _ _) (via (ap (λ b. if b then unchanged (Bytes []) else read_some c.in_ok-it.it c.args.count) (ap (λ n. n == 0) c.if-count-eq0.true)) (via (ap (λ bytes. unchanged (Bytes bytes)) (sym c.no_bytes.ensures)) (c.unchanged.ensures _ _))))

pub returns-then-is_pipe : goal.returns-then-is_pipe
returns-then-is_pipe g c = goes _ (c.in_ok-it.ensures _) (goes _ (c.in_ok-refuse_if.ensures _ _) (via (ap (λ b. if b then unchanged (Bytes []) else read_some c.in_ok-it.it c.args.count) (ne_eqb _ _ c.if-count-eq0.false)) (via (ap (λ b. if b then some_of_pipe c.in_ok-it.it.inode c.args.count else some_of_file c.in_ok-it.it.inode c.in_ok-it.it.description c.args.count) (sym c.is_pipe.ensures ∙ c.if-is_pipe.true)) c.read_some_pipe.ensures)))

pub returns-else-is_pipe : goal.returns-else-is_pipe
returns-else-is_pipe g c = goes _ (c.in_ok-it.ensures _) (goes _ (c.in_ok-refuse_if.ensures _ _) (via (ap (λ b. if b then unchanged (Bytes []) else read_some c.in_ok-it.it c.args.count) (ne_eqb _ _ c.if-count-eq0.false)) (via (ap (λ b. if b then some_of_pipe c.in_ok-it.it.inode c.args.count else some_of_file c.in_ok-it.it.inode c.in_ok-it.it.description c.args.count) (sym c.is_pipe.ensures ∙ c.if-is_pipe.false)) c.read_some_file.ensures)))
