use Rattle.std.proofs.Common.{sym, ap, ◌∙◌, if◌then◌else◌}
use Rattle.model.specs.Plans.{unchanged, write_some}
use Rattle.model.specs.Calls.{Count}
use Rattle.calls.specs.Parts.{some_to_pipe, some_to_file}
use Rattle.walk.proofs.Laws.{goes, stops, via}
use Rattle.calls.proofs.files.write.Goals as goal

pub returns-in_err-it : goal.returns-in_err-it
returns-in_err-it g c = stops _ c.from_residual.ensures.1 (c.in_err-it.ensures _)

pub returns-in_err-refuse_if : goal.returns-in_err-refuse_if
returns-in_err-refuse_if g c = goes _ (c.in_ok-it.ensures _) (stops _ c.from_residual-in_err-refuse_if.ensures.1 (c.in_err-refuse_if.ensures _ _))

pub returns-then-is_empty : goal.returns-then-is_empty
returns-then-is_empty g c = goes _ (c.in_ok-it.ensures _) (goes _ (c.in_ok-refuse_if.ensures _ _) (via (ap (λ b. if b then unchanged (Count 0) else write_some (g.L.Look.state c.args.look.now).bounds.file_bytes c.in_ok-it.it c.args.bytes.now) (sym c.is_empty.ensures ∙ c.if-is_empty.true)) (c.unchanged.ensures _ _)))

pub returns-then-is_pipe : goal.returns-then-is_pipe
returns-then-is_pipe g c = goes _ (c.in_ok-it.ensures _) (goes _ (c.in_ok-refuse_if.ensures _ _) (via (ap (λ b. if b then unchanged (Count 0) else write_some (g.L.Look.state c.args.look.now).bounds.file_bytes c.in_ok-it.it c.args.bytes.now) (sym c.is_empty.ensures ∙ c.if-is_empty.false)) (via (ap (λ b. if b then some_to_pipe c.in_ok-it.it.inode c.args.bytes.now else some_to_file (g.L.Look.state c.args.look.now).bounds.file_bytes c.in_ok-it.it c.args.bytes.now) (sym c.is_pipe.ensures ∙ c.if-is_pipe.true)) c.write_pipe.ensures)))

pub returns-else-is_pipe : goal.returns-else-is_pipe
returns-else-is_pipe g c = goes _ (c.in_ok-it.ensures _) (goes _ (c.in_ok-refuse_if.ensures _ _) (via (ap (λ b. if b then unchanged (Count 0) else write_some (g.L.Look.state c.args.look.now).bounds.file_bytes c.in_ok-it.it c.args.bytes.now) (sym c.is_empty.ensures ∙ c.if-is_empty.false)) (via (ap (λ b. if b then some_to_pipe c.in_ok-it.it.inode c.args.bytes.now else some_to_file (g.L.Look.state c.args.look.now).bounds.file_bytes c.in_ok-it.it c.args.bytes.now) (sym c.is_pipe.ensures ∙ c.if-is_pipe.false)) (via (ap (λ m. some_to_file m c.in_ok-it.it c.args.bytes.now) (sym c.largest.ensures)) c.write_file.ensures))))
