use Rattle.kernel.proofs.Words.{[], ◌+◌, refl, ap, ◌∙◌, Begin, Begun, idle, live, fields, sym, true}
use Rattle.kernel.proofs.Entries.{entries_count, free_at, none_else, ends}
use Rattle.kernel.proofs.step.begin.Goals as goal

pub end_transaction-requires : goal.end_transaction-requires
end_transaction-requires c =
    let f = fields c.args.s.now in
    rw c.new-told.ensures (ends f c.requires.holds c.args.pid (Begin c.args.flags) Begun idle c.requires.stands (refl, none_else c.args.pid (Begin c.args.flags) Begun, free_at f c.args.pid (Begin c.args.flags) idle c.requires.stands c.requires.place) refl refl
    true c.args.flags _ (λ h. absurd cc) refl (ap (λ n. live c.args.flags (n + 1) []) (entries_count f.log ∙ sym c.count.ensures.value)))
