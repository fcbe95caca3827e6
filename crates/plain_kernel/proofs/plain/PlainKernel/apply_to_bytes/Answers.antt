use Rattle.plain_kernel.proofs.Edited.{appends, cut_ends, cuts, edited, put_ends, puts, sets_rights, takes, wipe_ends, wipes}
use Rattle.plain_kernel.proofs.Setting.{if_ok}
use Rattle.plain_kernel.proofs.plain.PlainKernel.apply_to_bytes.Goals as goal

pub returns-in-PutBytes : goal.returns-in-PutBytes
returns-in-PutBytes c = if_ok c.put.result c.put.ensures (λ h. edited _ _ _ _ _ c.in-PutBytes.is (puts _ _ _ _ _ _ _ _ c.as_slice.ensures h))

pub returns-in-Cut : goal.returns-in-Cut
returns-in-Cut c = if_ok c.cut.result c.cut.ensures (λ h. edited _ _ _ _ _ c.in-Cut.is (cuts _ _ _ _ _ _ h))

pub returns-in-Take : goal.returns-in-Take
returns-in-Take c = if_ok c.take.result c.take.ensures (λ h. edited _ _ _ _ _ c.in-Take.is (takes _ _ _ _ _ h))

pub returns-in-Append : goal.returns-in-Append
returns-in-Append c = if_ok c.append.result c.append.ensures (λ h. edited _ _ _ _ _ c.in-Append.is (appends _ _ _ _ _ _ c.as_slice-in-Append.ensures h))

pub returns-in-SetRights : goal.returns-in-SetRights
returns-in-SetRights c = if_ok c.set_rights.result c.set_rights.ensures (λ h. edited _ _ _ _ _ c.in-SetRights.is (sets_rights _ _ _ _ _ h))

pub put-requires : goal.put-requires
put-requires c = put_ends _ _ _ _ _ _ c.in-PutBytes.is c.as_slice.ensures c.requires.within

pub returns-in-Wipe : goal.returns-in-Wipe
returns-in-Wipe c = if_ok c.wipe.result c.wipe.ensures (λ h. edited _ _ _ _ _ c.in-Wipe.is (wipes _ _ _ _ _ _ h))

pub wipe-requires : goal.wipe-requires
wipe-requires c = wipe_ends _ _ _ _ c.in-Wipe.is c.requires.within

pub cut-requires : goal.cut-requires
cut-requires c = cut_ends _ _ _ _ c.in-Cut.is c.requires.within
