use Rattle.std.proofs.Common.{◌++◌, refl, arith}
use Rattle.replay.proofs.Following.{passes_all}
use Rattle.replay.proofs.Parts.{begins_part, ends_part, first_is, last_is}
use Rattle.replay.proofs.checker.follow_part.Goals as goal

pub follow_all-requires : goal.follow_all-requires
follow_all-requires g c = (c.requires.follows.tidied, begins_part g.before.entries c.args.entries.now _ c.args.audit.transactions refl c.requires.count c.requires.held c.requires.there)

pub still_needed-requires : goal.still_needed-requires
still_needed-requires g c =
    let all = c.in-Ok.ensures.follows g.before.root g.before.setup (first_is g.before.entries c.args.entries.now g.before.root g.before.setup c.args.count c.args.audit.kernel c.args.audit.transactions c.requires.count c.requires.follows) in
    let end = last_is g.before.entries c.args.entries.now g.before.root g.before.setup c.args.count c.in-Ok.end c.follow_all.new.self.kernel c.follow_all.new.self.transactions c.requires.count all.0 all.1 in
    ends_part (g.before.entries ++ c.args.entries.now) g.before.root g.before.setup _ c.follow_all.new.self.transactions
    (begins_part g.before.entries c.args.entries.now _ c.args.audit.transactions refl c.requires.count c.requires.held c.requires.there).0 c.in-Ok.ensures.sees end.1.positions

pub returns-in-Ok-still_needed-clause-ok : goal.returns-in-Ok-still_needed-clause-ok
returns-in-Ok-still_needed-clause-ok g c =
    let all = c.in-Ok.ensures.follows g.before.root g.before.setup (first_is g.before.entries c.args.entries.now g.before.root g.before.setup c.args.count c.args.audit.kernel c.args.audit.transactions c.requires.count c.requires.follows) in
    let end = last_is g.before.entries c.args.entries.now g.before.root g.before.setup c.args.count c.in-Ok.end c.follow_all.new.self.kernel c.follow_all.new.self.transactions c.requires.count all.0 all.1 in
    record { count = end.0; follows = end.1; held = c.in-Ok-still_needed.ensures.held; there = c.in-Ok-still_needed.ensures.there }

pub returns-in-Ok-still_needed-clause-passes : goal.returns-in-Ok-still_needed-clause-passes
returns-in-Ok-still_needed-clause-passes g c =
    let all = c.in-Ok.ensures.follows g.before.root g.before.setup (first_is g.before.entries c.args.entries.now g.before.root g.before.setup c.args.count c.args.audit.kernel c.args.audit.transactions c.requires.count c.requires.follows) in
    let end = last_is g.before.entries c.args.entries.now g.before.root g.before.setup c.args.count c.in-Ok.end c.follow_all.new.self.kernel c.follow_all.new.self.transactions c.requires.count all.0 all.1 in
    passes_all _ _ _ _ _ _ end.1 (omega arith)

pub returns-in-Err-clause-wrong : goal.returns-in-Err-clause-wrong
returns-in-Err-clause-wrong g c =
    c.fault_of.ensures g.before.root g.before.setup (g.before.entries ++ c.args.entries.now) (c.in-Err.ensures.follows g.before.root g.before.setup (first_is g.before.entries c.args.entries.now g.before.root g.before.setup c.args.count c.args.audit.kernel c.args.audit.transactions c.requires.count c.requires.follows))
