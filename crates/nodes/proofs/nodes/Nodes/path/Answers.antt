use Rattle.std.proofs.Common.{◌<◌, ◌≤◌, ℕ, List, Some, length, sym, ap, ◌∙◌, arith}
use Rattle.nodes.proofs.Ways.{no_path, short, too_long}
use Rattle.nodes.proofs.nodes.Nodes.path.Goals as goal

pub returns-in_default : goal.returns-in_default
returns-in_default c =
    let h = rw c.in_default.is at c.in_ok-root.ensures in
    sym (no_path c.args.self.now.table c.args.number h)

pub returns-then-length-gt-PATH_LIMIT : goal.returns-then-length-gt-PATH_LIMIT
returns-then-length-gt-PATH_LIMIT c =
    let h = rw (c.in-Some.is, c.new-bytes.ensures.items) at c.in_ok-root.ensures in
    let long : 4096 < length c.put_way.new.out.items = omega (arith, c.as_slice-length.ensures.len, ap (λ (b : List ℕ). length b) c.as_slice-length.ensures.value) in
    sym (too_long c.args.self.now.table c.args.number c.in-Some.root c.put_way.new.out.items long h)

pub returns : goal.returns
returns c =
    let h = rw (c.in-Some.is, c.new-bytes.ensures.items) at c.in_ok-root.ensures in
    let few : length c.put_way.new.out.items ≤ 4096 = omega (arith, c.as_slice-length.ensures.len, ap (λ (b : List ℕ). length b) c.as_slice-length.ensures.value) in
    ap (λ (b : List ℕ). Some (c.in-Some.root, b)) c.new.ensures ∙ sym (short c.args.self.now.table c.args.number c.in-Some.root c.put_way.new.out.items few h)
