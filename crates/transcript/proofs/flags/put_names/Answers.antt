use Rattle.std.proofs.Common.{◌∙◌, sym, codes}
use Rattle.transcript.specs.Flags.{PrintsNames, access_names}
use Rattle.transcript.proofs.Names.{has_any-access, names_by-flags, PrintsNames-as, PrintsNames-next}
use Rattle.transcript.proofs.flags.put_names.Goals as goal

pub returns : goal.returns
returns g c =
    let access : PrintsNames g.S.Sink.written g.S.Sink.failures c.args.out.now c.put_access-access.new.out (access_names c.reads.result c.writes.result) c.put_access-access.result =
    record { printed = c.put_access-access.ensures.text; known = c.put_access-access.ensures.any ∙ sym (has_any-access c.reads.result c.writes.result) } in
    let creates = PrintsNames-next _ _ _ c.creates.result (codes "CREAT") access c.put_name-creates.ensures.text c.put_name-creates.ensures.any in
    let exclusive = PrintsNames-next _ _ _ c.is_exclusive.result (codes "EXCL") creates c.put_name-exclusive.ensures.text c.put_name-exclusive.ensures.any in
    let truncates = PrintsNames-next _ _ _ c.truncates.result (codes "TRUNC") exclusive c.put_name-truncates.ensures.text c.put_name-truncates.ensures.any in
    let all = PrintsNames-next _ _ _ c.appends.result (codes "APPEND") truncates c.put_name.ensures.text c.put_name.ensures.any in
    let names = names_by-flags c.args.flags c.reads.ensures c.writes.ensures c.creates.ensures c.is_exclusive.ensures c.truncates.ensures c.appends.ensures in
    PrintsNames-as all names
