-- A kernel may go to another thread. The kit finds this by itself of types without snapshots; a shadow's log is
-- made of them, so it is shown here of each type that holds one.
use base.Fml.{Fml}
use base.Shift.{Keyless}
use denote.RawPtr.{Ptr}
use mir.Syntax.{Ty}
use denote.Param.Send.{IsSend, Frees, recorded_send, sendable, struct_send}
use denote.Struct.Declared.{shape}
use Rattle.std.proofs.Crossing.{crosses, frees}
use Rattle.std.proofs.CrossingOver as over
use Rattle.std.proofs.MapsCrossingOver as maps
use Rattle.dirlist.specs.contracts.patch.NamePatch as NamePatch
use Rattle.file_shadow.specs.contracts.shadow.FileShadow as FileShadow
use Rattle.objects.specs.contracts.file.FileData as FileData
use Rattle.objects.specs.contracts.pipe.PipeData as PipeData
use Rattle.pipe_shadow.specs.contracts.PipeShadow as PipeShadow
use Rattle.circular_buffer.proofs.Crosses.{Cells-send, Deed-send}
use Rattle.fdtable.specs.contracts.FdTable as FdTable
use Rattle.fdtable.specs.contracts.SlotPatch as SlotPatch
use Rattle.fdtable.specs.contracts.page.Page as Page
use Rattle.fdtable.specs.contracts.pages.Pages as Pages
use Rattle.fdtable.specs.contracts.room.SlotRoom as SlotRoom
use Rattle.notes.specs.contracts.change.Contents as Contents
use Rattle.notes.specs.contracts.change.InodeChange as InodeChange
use Rattle.notes.specs.contracts.inodes.Inodes as Inodes
use Rattle.notes.specs.contracts.new_rights.NewRights as NewRights
use Rattle.notes.specs.contracts.opening.Openings as Openings
use Rattle.notes.specs.contracts.slots.Slots as Slots
use Rattle.notes.specs.contracts.patches.Patches as Patches
use Rattle.shadow.specs.contracts.shadow.Shadow as Shadow
use Rattle.store.specs.contracts.Header as Header
use Rattle.store.specs.contracts.Object as Object
use Rattle.store.specs.contracts.OpenFile as OpenFile
use Rattle.store.specs.contracts.OpenPipe as OpenPipe
use Rattle.store.specs.contracts.Opened as Opened
use Rattle.dirlist.specs.contracts.Dir as Dir
use Rattle.store.specs.contracts.Store as Store
use Rattle.shadow.specs.contracts.stable.Process as Process
use Rattle.shadow.specs.contracts.stable.Processes as Processes
use Rattle.shadow.specs.contracts.stable.Stable as Stable
use Rattle.ids.specs.contracts.aspect.Touch as Touch
use Rattle.ids.specs.contracts.aspect.Cause as Cause
use Rattle.ids.specs.contracts.call.Call as Call
use Rattle.ids.specs.contracts.call.Op as Op
use Rattle.ids.specs.contracts.bytes.Bytes as Bytes
use Rattle.ids.specs.contracts.bytes.Name as Name
use Rattle.ids.specs.contracts.bytes.NameList as NameList
use Rattle.ids.specs.contracts.fixed.Fixed as Fixed
use Rattle.ids.specs.contracts.target.Target as Target
use Rattle.ids.specs.contracts.reply.Answer as Answer
use Rattle.ids.specs.contracts.reply.Reply as Reply
use Rattle.ids.specs.contracts.entry.Entry as Entry
use Rattle.commit.specs.contracts.process_state.Doom as Doom
use Rattle.commit.specs.contracts.process_state.ProcessState as ProcessState
use Rattle.records.specs.contracts.journal.Journal as Journal
use Rattle.records.specs.contracts.users.Users as Users
use Rattle.ids.specs.contracts.aspect.Aspect as Aspect
use Rattle.records.specs.contracts.records.Records as Records
use Rattle.list_modes.specs.contracts.Holders as Holders
use Rattle.marked_records.specs.contracts.MarkedRecords as MarkedRecords
use Rattle.contention.specs.contracts.rank.Ranks as Ranks
use Rattle.contention.specs.contracts.Contenders as Contenders
use Rattle.history.specs.contracts.History as History
use Rattle.kernel.specs.contracts.state.State as State
use Rattle.commit.specs.contracts.transactions.Transactions as Transactions
use Rattle.kernel.specs.contracts.kernel.Kernel as Kernel

-- any thread may give a block back to the heap
frees_by : {D : Type 0} {G : Type 1} (g : G) (holds : D → Ty → Ptr → Fml)
    → ((a : D) (τ : Ty) (p : Ptr) → Keyless (holds a τ p)) → Frees g holds
frees_by g holds h = record { frees = h }

room_sent : IsSend FileData.the_row
room_sent = search (sendable, crosses, over.crosses, frees_by, frees.frees) depth 40 fits 30000

name_sent : IsSend Name.the_row
name_sent = search (sendable, crosses, over.crosses, frees_by, frees.frees) depth 40 fits 30000

patch_sent : IsSend NamePatch.the_row
patch_sent = search (name_sent, sendable, crosses, over.crosses, maps.crosses, frees_by, frees.frees) depth 40 fits 30000

bytes_sent : IsSend FileShadow.the_row
bytes_sent = search (room_sent, sendable, crosses, over.crosses, frees_by, frees.frees) depth 40 fits 30000

waiting_sent : IsSend PipeData.the_row
waiting_sent = search (Cells-send, Deed-send, sendable, crosses, over.crosses, frees_by, frees.frees) depth 40 fits 30000

appended_sent : IsSend PipeShadow.the_row
appended_sent = search (sendable, crosses, over.crosses, frees_by, frees.frees) depth 40 fits 30000

open_pipe_sent : IsSend (OpenPipe.the_field).row
open_pipe_sent = search (waiting_sent, sendable, crosses, over.crosses) depth 40 fits 30000

page_sent : IsSend Page.the_row
page_sent = search (sendable, crosses, over.crosses, frees_by, frees.frees) depth 40 fits 30000

pages_sent : IsSend Pages.the_row
pages_sent = search (page_sent, sendable, crosses, over.crosses, frees_by, frees.frees) depth 40 fits 30000

table_sent : IsSend FdTable.the_row
table_sent = search (pages_sent, sendable, crosses, over.crosses) depth 40 fits 30000

given_sent : IsSend SlotPatch.the_row
given_sent = search (pages_sent, sendable, crosses, over.crosses, frees_by, frees.frees) depth 40 fits 30000

places_sent : IsSend SlotRoom.the_row
places_sent = search (pages_sent, sendable, crosses, over.crosses) depth 40 fits 30000

text_sent : IsSend Bytes.the_row
text_sent = search (sendable, crosses, over.crosses, frees_by, frees.frees) depth 40 fits 30000

target_sent : IsSend Target.the_row
target_sent = search (text_sent, sendable, crosses, over.crosses, frees_by, frees.frees) depth 40 fits 30000

fixed_sent : IsSend (Fixed.the_field).row
fixed_sent = search (target_sent, sendable, crosses, over.crosses, frees_by, frees.frees) depth 40 fits 30000

contents_sent : IsSend (Contents.the_field).row
contents_sent = search (patch_sent, bytes_sent, open_pipe_sent, appended_sent, fixed_sent, sendable, crosses, over.crosses) depth 40 fits 30000

change_sent : IsSend (InodeChange.the_field).row
change_sent = search (contents_sent, room_sent, sendable, crosses, over.crosses) depth 40 fits 30000

inodes_sent : IsSend Inodes.the_row
inodes_sent = search (change_sent, sendable, crosses, over.crosses, maps.crosses, frees_by, frees.frees) depth 40 fits 30000

rights_sent : IsSend NewRights.the_row
rights_sent = search (sendable, crosses, over.crosses, maps.crosses, frees_by, frees.frees) depth 40 fits 30000

openings_sent : IsSend Openings.the_row
openings_sent = search (sendable, crosses, over.crosses, maps.crosses, frees_by, frees.frees) depth 40 fits 30000

slots_sent : IsSend Slots.the_row
slots_sent = search (given_sent, places_sent, sendable, crosses, over.crosses, frees_by, frees.frees) depth 40 fits 30000

patches_sent : IsSend Patches.the_row
patches_sent = search (inodes_sent, rights_sent, openings_sent, slots_sent, sendable, crosses, over.crosses, frees_by, frees.frees) depth 40 fits 30000

shadow_sent : IsSend Shadow.the_row
shadow_sent = search (patches_sent, sendable, crosses, over.crosses) depth 40 fits 30000

dir_sent : IsSend Dir.the_row
dir_sent = search (name_sent, sendable, crosses, over.crosses, maps.crosses, frees_by, frees.frees) depth 40 fits 30000

open_file_sent : IsSend (OpenFile.the_field).row
open_file_sent = search (room_sent, sendable, crosses, over.crosses) depth 40 fits 30000

opened_sent : IsSend (Opened.the_field).row
opened_sent = search (sendable, crosses, over.crosses) depth 40 fits 30000

object_sent : IsSend (Object.the_field).row
object_sent = search (dir_sent, open_file_sent, open_pipe_sent, opened_sent, fixed_sent, sendable) depth 40 fits 30000

header_sent : IsSend Header.the_row
header_sent = search (object_sent, sendable, crosses, over.crosses, frees_by, frees.frees) depth 40 fits 30000

store_sent : IsSend Store.the_row
store_sent = search (header_sent, sendable, crosses, over.crosses, frees_by, frees.frees) depth 40 fits 30000

process_sent : IsSend Process.the_row
process_sent = search (table_sent, sendable, crosses, over.crosses) depth 40 fits 30000

processes_sent : IsSend Processes.the_row
processes_sent = search (process_sent, sendable, crosses, over.crosses, frees_by, frees.frees) depth 40 fits 30000

stable_sent : IsSend Stable.the_row
stable_sent = search (store_sent, processes_sent, sendable, crosses, over.crosses, frees_by, frees.frees) depth 40 fits 30000

touch_sent : IsSend Touch.the_row
touch_sent = search (sendable, crosses, over.crosses, frees_by, frees.frees) depth 40 fits 30000

cause_sent : IsSend (Cause.the_field).row
cause_sent = search (sendable, crosses, over.crosses, frees_by, frees.frees) depth 40 fits 30000

doom_sent : IsSend (Doom.the_field).row
doom_sent = search (cause_sent, sendable, crosses, over.crosses, frees_by, frees.frees) depth 40 fits 30000

process_state_sent : IsSend ProcessState.the_row
process_state_sent = search (shadow_sent, doom_sent, sendable, crosses, over.crosses, frees_by, frees.frees) depth 40 fits 30000

transactions_sent : IsSend Transactions.the_row
transactions_sent = search (stable_sent, process_state_sent, sendable, crosses, over.crosses, frees_by, frees.frees) depth 40 fits 30000

journal_sent : IsSend Journal.the_row
journal_sent = search (touch_sent, sendable, crosses, over.crosses, frees_by, frees.frees) depth 40 fits 30000

aspect_sent : IsSend (Aspect.the_field).row
aspect_sent = search (sendable, crosses, over.crosses, frees_by, frees.frees) depth 40 fits 30000

users_sent : IsSend Users.the_row
users_sent = search (sendable, crosses, over.crosses, frees_by, frees.frees) depth 40 fits 30000

records_sent : IsSend Records.the_row
records_sent = search (journal_sent, aspect_sent, users_sent, sendable, crosses, over.crosses, maps.crosses, frees_by, frees.frees) depth 40 fits 30000

holders_sent : IsSend Holders.the_row
holders_sent = search (sendable, crosses, over.crosses, maps.crosses, frees_by, frees.frees) depth 40 fits 30000

marked_records_sent : IsSend MarkedRecords.the_row
marked_records_sent = search (records_sent, holders_sent, sendable, crosses, over.crosses, frees_by, frees.frees) depth 40 fits 30000

ranks_sent : IsSend Ranks.the_row
ranks_sent = search (sendable, crosses, over.crosses, frees_by, frees.frees) depth 40 fits 30000

contenders_sent : IsSend Contenders.the_row
contenders_sent = search (ranks_sent, marked_records_sent, sendable, crosses, over.crosses, frees_by, frees.frees) depth 40 fits 30000

call_sent : IsSend (Call.the_field).row
call_sent = search (text_sent, sendable, crosses, over.crosses, frees_by, frees.frees) depth 40 fits 30000

op_sent : IsSend (Op.the_field).row
op_sent = search (call_sent, sendable, crosses, over.crosses, frees_by, frees.frees) depth 40 fits 30000

names_sent : IsSend NameList.the_row
names_sent = search (name_sent, sendable, crosses, over.crosses, frees_by, frees.frees) depth 40 fits 30000

answer_sent : IsSend (Answer.the_field).row
answer_sent = search (names_sent, text_sent, sendable, crosses, over.crosses, frees_by, frees.frees) depth 40 fits 30000

reply_sent : IsSend (Reply.the_field).row
reply_sent = search (answer_sent, cause_sent, sendable, crosses, over.crosses, frees_by, frees.frees) depth 40 fits 30000

entry_sent : IsSend Entry.the_row
entry_sent = recorded_send _ _ _ Entry.the_type.to_one (struct_send (shape Entry.the_type) (
  search sendable,
  (
    op_sent,
    (
      reply_sent,
      (
        search (sendable, crosses, over.crosses, frees_by, frees.frees) depth 40 fits 30000,
        (search (sendable, crosses, over.crosses, frees_by, frees.frees) depth 40 fits 30000, tt),
      ),
    ),
  ),
))

history_sent : IsSend History.the_row
history_sent = search (entry_sent, sendable, crosses, over.crosses, frees_by, frees.frees) depth 40 fits 30000

state_sent : IsSend (State.the_field).row
state_sent = search (history_sent, contenders_sent, transactions_sent, sendable, crosses, over.crosses, frees_by, frees.frees) depth 40 fits 30000

pub kernel_sent : IsSend Kernel.the_row
kernel_sent = search (state_sent, sendable, crosses, over.crosses, frees_by, frees.frees) depth 40 fits 30000
