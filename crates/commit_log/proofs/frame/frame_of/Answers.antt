use Rattle.std.proofs.Common.{◌≡◌, length, rules, ◌∙◌, ap}
use Rattle.commit_log.specs.Frame.{frame}
use Rattle.commit_log.proofs.Spelled.{length-frame}
use Rattle.commit_log.proofs.frame.frame_of.Goals as goal

pub returns-clause-bytes : goal.returns-clause-bytes
unfolding frame
returns-clause-bytes c = search rules

pub returns-clause-length : goal.returns-clause-length
unfolding frame
returns-clause-length c =
    let bytes : c.extend_from_slice-2.new.self.items ≡ frame c.args.key c.args.place c.args.kept c.args.payload.now = search rules in
    ap length bytes ∙ length-frame c.args.key c.args.place c.args.kept c.args.payload.now
