use Rattle.std.proofs.Common.{◌≡◌, length, drop, sym, ◌∙◌, ap, arith, rules}
use Rattle.std.proofs.lemmas.List.{drop_all, take_rest}
use Rattle.commit_log.proofs.reader.Reader.payload.Goals as goal

pub returns-then-len-lt-HEAD : goal.returns-then-len-lt-HEAD
returns-then-len-lt-HEAD g c =
    let items = c.args.self.now.frame.items in
    let told : c.len.result ≡ length items = search rules in
    sym (drop_all 32 items (omega (arith, told)))

pub returns : goal.returns
returns g c = take_rest c.deref.result.now 32 ∙ ap (drop 32) c.deref.ensures.value
