use Rattle.std.proofs.Common.{◌≡◌, [], length, sym, ap, subst₂, vec_items, rules, arith}
use Rattle.recording.specs.Recorded.{AreRest}
use Rattle.recording.proofs.Keeping.{all_counted, all_taken}
use Rattle.recording.proofs.notes.Notes.take.Goals as goal

pub overflow_add-all : goal.overflow_add-all
overflow_add-all c =
    let now = c.args.self.now in
    let same : c.args.taken ≡ now.taken = search rules in
    let all : c.len.result ≡ length now.waiting.items = search rules in
    omega (arith, c.requires c.if-lost.false, same, all)

pub returns-clause-rest : goal.returns-clause-rest
returns-clause-rest c = λ log keep.
    let now = c.args.self.now in
    let same : c.args.taken ≡ now.taken = search rules in
    subst₂ (AreRest log) (sym same) (ap vec_items (sym c.replace-records.ensures.value)) keep.waiting

pub returns-clause-keep : goal.returns-clause-keep
returns-clause-keep c = λ log keep.
    let now = c.args.self.now in
    let same : c.args.taken ≡ now.taken = search rules in
    let all : c.len.result ≡ length now.waiting.items = search rules in
    let none : c.replace-records.new.dest.items ≡ [] = search rules in
    record {
      follows = keep.follows;
      waiting = all_taken log now.taken _ now.waiting.items _ keep.waiting (omega (arith, same, all)) none;
    }

pub returns-clause-taken : goal.returns-clause-taken
returns-clause-taken c = λ log keep.
    let now = c.args.self.now in
    let same : c.args.taken ≡ now.taken = search rules in
    let all : c.len.result ≡ length now.waiting.items = search rules in
    omega (arith, same, all, all_counted log now.taken now.waiting.items keep.waiting)
