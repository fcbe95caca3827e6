use Rattle.std.proofs.Common.{◌≡◌, ◌+◌, ◌++◌, ◌∙◌, ap, arith, length, sym}
use Rattle.std.proofs.lemmas.List.{length-take-le}
use Rattle.std.specs.Fmt.{decimal}
use Rattle.transcript.proofs.Decimals.{at_most_twenty, put_in_place}
use Rattle.transcript.proofs.pending.Pending.append_decimal.Goals as goal

pub overflow_add-end : goal.overflow_add-end
overflow_add-end c = record { fits = omega (arith, c.self.invariant, c.count_digits.ensures, at_most_twenty c.args.n c.ranges.n.fits) }

pub write_digits-requires : goal.write_digits-requires
write_digits-requires c =
    let len : length c.args.self.now ≡ c.self.inside.len = sym (ap length c.self.view_is) ∙ length-take-le c.self.inside.len c.self.inside.bytes (omega (arith, c.self.told, c.self.invariant)) in
    (omega (arith, c.count_digits.ensures), omega (arith, len, c.requires, c.self.told, c.self.invariant, c.count_digits.ensures, at_most_twenty c.args.n c.ranges.n.fits))

pub returns : goal.returns
returns c =
    put_in_place c.self.inside.len (c.self.inside.len + c.count_digits.result) c.write_digits.result c.self.inside.bytes c.write_digits.new.buf (decimal c.args.n) _
    (omega (arith, c.self.told, c.self.invariant)) c.write_digits.ensures.start (ap (λ n. c.self.inside.len + n) c.count_digits.ensures) c.write_digits.ensures.written c.write_digits.ensures.before
    ∙ ap (λ xs. xs ++ decimal c.args.n) c.self.view_is
