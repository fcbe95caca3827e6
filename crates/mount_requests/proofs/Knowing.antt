-- What is known behind a request, by other names of what was known before.
use Rattle.std.proofs.Common.{◌≡◌, ℕ, List, Bool, true, false, refl, sym, ap, subst, ◌∙◌}
use Rattle.std.specs.Prelude.{Option, Some, None, Ok}
use Rattle.ids.specs.declared.reply.Stat.{Stat}
use Rattle.fuse.specs.declared.reply.Attr.{Attr}
use Rattle.fuse.specs.declared.reply.Entry.{Entry}
use Rattle.fuse.specs.declared.reply.Opened.{Opened}
use Rattle.fuse.specs.declared.reply.Reply.TheVariants as reply
use Rattle.fuse.specs.declared.request.Changes.{Changes}
use Rattle.nodes.specs.Tables.{Table, is_current, looked_up, made, root_of}
use Rattle.nodes.specs.declared.directory_entry.DirectoryEntry.{DirectoryEntry}
use Rattle.course.specs.declared.files.Made.{Made}
use Rattle.course.specs.declared.made.Cut.{Cut}
use Rattle.mount_tables.specs.Attributes.{IsLike}
use Rattle.mount_tables.specs.Numbers.{view_of}
use Rattle.view_times.specs.Known.{Known, times_of}
use Rattle.view_times.specs.declared.times.Times.{Times}
use Rattle.mount_requests.specs.Answers.{Says}
use Rattle.mount_requests.specs.Found.{handle_of}
use Rattle.mount_requests.specs.Later.{opened_first, with_creation, with_exchange, with_link, with_look_up, with_made, with_move, with_new, without_name}
use Rattle.mount_requests.specs.Requests.{ShowsMade, born_if, handle_made, handle_made_by, with_created, with_open, with_open_by}
use Rattle.mount_requests.specs.Seen.{Seen}
use Rattle.mount_requests.specs.Times.{of_linking, of_setting, times_at, times_if, view_by, with_events, with_events_if}
use Rattle.mount_requests.specs.Found.{inode_of}
use Rattle.mount_requests.specs.Told.{IsEntry, ShowsAttributes, ShowsCreated, ShowsEntry, named}

-- a name was looked up
looked_at : (s u later : Seen) (node : ℕ) (name : List ℕ) (p : DirectoryEntry) (stat : Stat) (entry : Entry) → u ≡ s → p ≡ named node name → IsEntry u.nodes p stat (times_at u u.times p.parent stat.num) entry → later ≡ record u { nodes = looked_up u.nodes p stat.num stat.kind } → IsEntry s.nodes (named node name) stat (times_at s s.times node stat.num) entry × (later ≡ with_look_up s node name stat)
looked_at s u later node name p stat entry a b is known =
    let told : IsEntry s.nodes (named node name) stat (times_at s s.times node stat.num) entry = subst (λ (q : DirectoryEntry). IsEntry s.nodes q stat (times_at s s.times q.parent stat.num) entry) b (subst (λ (v : Seen). IsEntry v.nodes p stat (times_at v v.times p.parent stat.num) entry) a is) in
    (told, known ∙ ap (λ (v : Seen). record v { nodes = looked_up v.nodes p stat.num stat.kind }) a ∙ ap (λ (q : DirectoryEntry). record s { nodes = looked_up s.nodes q stat.num stat.kind }) b)

pub looked : (s u later : Seen) (node : ℕ) (name : List ℕ) (p : DirectoryEntry) (stat : Stat) (entry : Entry) → u ≡ s → p ≡ named node name → IsEntry u.nodes p stat (times_at u u.times p.parent stat.num) entry → later ≡ record u { nodes = looked_up u.nodes p stat.num stat.kind } → Says (ShowsEntry s.nodes (named node name) stat (times_at s s.times node stat.num)) (Ok (reply.Entry entry)) × (later ≡ with_look_up s node name stat)
looked s u later node name p stat entry a b is known = looked_at s u later node name p stat entry a b is known

-- an object got a further name, and that was looked up
pub linked : (s u later : Seen) (node : ℕ) (name : List ℕ) (inode : ℕ) (p : DirectoryEntry) (stat : Stat) (entry : Entry) → u ≡ with_events node (of_linking inode (inode_of s node)) s → p ≡ named node name → IsEntry u.nodes p stat (times_at u u.times p.parent stat.num) entry → later ≡ record u { nodes = looked_up u.nodes p stat.num stat.kind }
    → Says (ShowsEntry s.nodes (named node name) stat (times_at s later.times node stat.num)) (Ok (reply.Entry entry)) × (later ≡ with_link s node name inode stat)
linked s u later node name inode p stat entry a b is known =
    let t : Seen = with_events node (of_linking inode (inode_of s node)) s in
    let h : IsEntry s.nodes (named node name) stat (times_at s t.times node stat.num) entry × (later ≡ with_link s node name inode stat) = looked_at t u later node name p stat entry a b is known in
    (subst (λ (k : Known). IsEntry s.nodes (named node name) stat (times_at s k node stat.num) entry) (sym (ap (λ (v : Seen). v.times) h.1)) h.0, h.1)

-- an object was made, and then a look-up of its name is counted
pub entry_of_new : (s mid later : Seen) (p q : DirectoryEntry) (stat : Stat) (entry : Entry) → mid ≡ with_new s q.parent stat.num → q ≡ p → IsEntry mid.nodes p stat (times_at mid mid.times p.parent stat.num) entry → later ≡ record mid { nodes = looked_up mid.nodes p stat.num stat.kind } → IsEntry (made s.nodes stat.num) p stat (times_at s later.times p.parent stat.num) entry × (later ≡ record (with_new s p.parent stat.num) { nodes = looked_up (made s.nodes stat.num) p stat.num stat.kind })
entry_of_new s mid later p q stat entry noted same is known =
    let new : mid ≡ with_new s p.parent stat.num = noted ∙ ap (λ (x : DirectoryEntry). with_new s x.parent stat.num) same in
    let then : later ≡ record (with_new s p.parent stat.num) { nodes = looked_up (made s.nodes stat.num) p stat.num stat.kind } = known ∙ ap (λ (v : Seen). record v { nodes = looked_up v.nodes p stat.num stat.kind }) new in
    let told : IsEntry (made s.nodes stat.num) p stat (times_at s (with_new s p.parent stat.num).times p.parent stat.num) entry = subst (λ (v : Seen). IsEntry v.nodes p stat (times_at v v.times p.parent stat.num) entry) new is in
    (subst (λ (k : Known). IsEntry (made s.nodes stat.num) p stat (times_at s k p.parent stat.num) entry) (sym (ap (λ (v : Seen). v.times) then)) told, then)

-- an object was made, and its name looked up
pub born : (s u later : Seen) (node : ℕ) (name : List ℕ) (p : DirectoryEntry) (stat : Stat) (entry : Entry) → u ≡ s → p ≡ named node name → IsEntry (made u.nodes stat.num) p stat (times_at u later.times p.parent stat.num) entry → later ≡ record (with_new u p.parent stat.num) { nodes = looked_up (made u.nodes stat.num) p stat.num stat.kind } → ShowsMade s later node name stat (Ok (reply.Entry entry)) × (later ≡ with_made s node name stat)
born s u later node name p stat entry a b is known =
    let told : IsEntry (made s.nodes stat.num) (named node name) stat (times_at s later.times node stat.num) entry = subst (λ (q : DirectoryEntry). IsEntry (made s.nodes stat.num) q stat (times_at s later.times q.parent stat.num) entry) b (subst (λ (v : Seen). IsEntry (made v.nodes stat.num) p stat (times_at v later.times p.parent stat.num) entry) a is) in
    (told, known ∙ ap (λ (v : Seen). record (with_new v p.parent stat.num) { nodes = looked_up (made v.nodes stat.num) p stat.num stat.kind }) a ∙ ap (λ (q : DirectoryEntry). record (with_new s q.parent stat.num) { nodes = looked_up (made s.nodes stat.num) q stat.num stat.kind }) b)

-- a name was taken away
pub taken_away : (s u later : Seen) (node : ℕ) (name : List ℕ) (p : DirectoryEntry) → u ≡ s → p ≡ named node name → later ≡ without_name u p.parent p.name → later ≡ without_name s node name
taken_away s u later node name p a b known = known ∙ ap (λ (v : Seen). without_name v p.parent p.name) a ∙ ap (λ (q : DirectoryEntry). without_name s q.parent q.name) b

-- a name was moved
pub moved_away : (s u later : Seen) (node : ℕ) (name : List ℕ) (new_node : ℕ) (new_name : List ℕ) (p q : DirectoryEntry) → u ≡ s → p ≡ named node name → q ≡ named new_node new_name → later ≡ with_move u p.parent p.name q.parent q.name → later ≡ with_move s node name new_node new_name
moved_away s u later node name new_node new_name p q a b c known =
    known ∙ ap (λ (v : Seen). with_move v p.parent p.name q.parent q.name) a
    ∙ ap (λ (x : DirectoryEntry). with_move s x.parent x.name q.parent q.name) b
    ∙ ap (λ (x : DirectoryEntry). with_move s node name x.parent x.name) c

-- two names were exchanged
pub changed_places : (s u later : Seen) (node : ℕ) (name : List ℕ) (new_node : ℕ) (new_name : List ℕ) (p q : DirectoryEntry) → u ≡ s → p ≡ named node name → q ≡ named new_node new_name → later ≡ with_exchange u p.parent p.name q.parent q.name → later ≡ with_exchange s node name new_node new_name
changed_places s u later node name new_node new_name p q a b c known =
    known ∙ ap (λ (v : Seen). with_exchange v p.parent p.name q.parent q.name) a
    ∙ ap (λ (x : DirectoryEntry). with_exchange s x.parent x.name q.parent q.name) b
    ∙ ap (λ (x : DirectoryEntry). with_exchange s node name x.parent x.name) c

-- attributes were set: what is told has the times that the node sees then
set_by : (b : Bool) (s : Seen) (node : ℕ) (changes : Changes) (stat : Stat) → times_if (with_events_if b node (of_setting changes s.time stat.num) s) (with_events_if b node (of_setting changes s.time stat.num) s).times node stat.num ≡ times_if s (with_events_if b node (of_setting changes s.time stat.num) s).times node stat.num
set_by true s node changes stat = refl
set_by false s node changes stat = refl

pub set_told : (s later : Seen) (node : ℕ) (changes : Changes) (stat : Stat) (attr : Attr) → later ≡ with_events_if (is_current s.nodes node) node (of_setting changes s.time stat.num) s → IsLike stat (times_if later later.times node stat.num) attr → Says (ShowsAttributes stat (times_if s later.times node stat.num)) (Ok (reply.Attr attr))
set_told s later node changes stat attr known is =
    subst (λ (z : Times). IsLike stat z attr)
    (ap (λ (v : Seen). times_if v v.times node stat.num) known ∙ set_by (is_current s.nodes node) s node changes stat ∙ sym (ap (λ (v : Seen). times_if s v.times node stat.num) known)) is

-- ---- open files

pub opened_as : (s u later : Seen) (view inode pid process fd : ℕ) → u ≡ s → process ≡ pid → later ≡ opened_first u view inode process fd → later ≡ opened_first s view inode pid fd
opened_as s u later view inode pid process fd a b known =
    known ∙ ap (λ (v : Seen). opened_first v view inode process fd) a ∙ ap (λ (p : ℕ). opened_first s view inode p fd) b

-- what becomes of open files does not depend on nodes and times
module _ (s : Seen) (n : Table) (k : Known) (view pid : ℕ) (m : Made) where
  nodes_stay : (o : Option ℕ) → (with_open_by (record s { nodes = n; times = k }) view pid m o).nodes ≡ n
  nodes_stay (Some handle) = refl
  nodes_stay None = refl

  times_stay : (o : Option ℕ) → (with_open_by (record s { nodes = n; times = k }) view pid m o).times ≡ k
  times_stay (Some handle) = refl
  times_stay None = refl

  files_stay : (x : Table) (o : Option ℕ) → record (with_open_by (record s { nodes = n; times = k }) view pid m o) { nodes = x } ≡ record (with_open_by s view pid m o) { nodes = x; times = k }
  files_stay x (Some handle) = refl
  files_stay x None = refl

  handle_stays : (o : Option ℕ) → handle_made_by (record s { nodes = n; times = k }) o ≡ handle_made_by s o
  handle_stays (Some handle) = refl
  handle_stays None = refl

-- where it was made or not, nodes and times alone are others
creation_is : (b : Bool) (s : Seen) (node : ℕ) (how : Cut) (inode : ℕ) → with_creation b s node how inode ≡ record s { nodes = born_if b s.nodes inode; times = (with_creation b s node how inode).times }
creation_is true s node how inode = refl
creation_is false s node how inode = refl

-- a birth moves no node
view_stays : (b : Bool) (s : Seen) (k : Known) (node inode : ℕ) → times_of k (view_by (view_of (root_of (born_if b s.nodes inode) node))) inode ≡ times_at s k node inode
view_stays true s k node inode = refl
view_stays false s k node inode = refl

-- a file was made and opened, and its name looked up
module _ (s u v w later : Seen) (view pid process node : ℕ) (name : List ℕ) (how : Cut) (p : DirectoryEntry) (m : Made) (entry : Entry) (o : Opened) (handle : ℕ) (a : u ≡ s) (b : p ≡ named node name) (same : process ≡ pid) (noted : v ≡ with_creation m.is_new u node how m.stat.num) (kept : w ≡ with_open v view process m) where
  abbrev pub n : Table
  n = born_if m.is_new s.nodes m.stat.num

  abbrev pub k : Known
  k = (with_creation m.is_new s node how m.stat.num).times

  before : v ≡ record s { nodes = n; times = k }
  before = noted ∙ ap (λ (x : Seen). with_creation m.is_new x node how m.stat.num) a ∙ creation_is m.is_new s node how m.stat.num

  open_then : w ≡ with_open (record s { nodes = n; times = k }) view pid m
  open_then = kept ∙ ap (λ (x : Seen). with_open x view process m) before ∙ ap (λ (q : ℕ). with_open (record s { nodes = n; times = k }) view q m) same

  nodes_then : w.nodes ≡ n
  nodes_then = ap (λ (x : Seen). x.nodes) open_then ∙ nodes_stay s n k view pid m (handle_of s view m.stat.num)

  times_then : w.times ≡ k
  times_then = ap (λ (x : Seen). x.times) open_then ∙ times_stay s n k view pid m (handle_of s view m.stat.num)

  known_then : later ≡ record w { nodes = looked_up w.nodes p m.stat.num m.stat.kind } → later ≡ with_created s view pid node name how m
  known_then known =
      known ∙ ap (λ (t : Table). record w { nodes = looked_up t p m.stat.num m.stat.kind }) nodes_then
      ∙ ap (λ (x : Seen). record x { nodes = looked_up n p m.stat.num m.stat.kind }) open_then
      ∙ files_stay s n k view pid m (looked_up n p m.stat.num m.stat.kind) (handle_of s view m.stat.num)
      ∙ ap (λ (q : DirectoryEntry). record (with_open s view pid m) { nodes = looked_up n q m.stat.num m.stat.kind; times = k }) b

  -- the times that are told are those of the view
  told_then : (w.times ≡ later.times) → times_at w w.times p.parent m.stat.num ≡ times_at s later.times node m.stat.num
  told_then is =
      ap (λ (t : Table). times_of w.times (view_by (view_of (root_of t p.parent))) m.stat.num) nodes_then
      ∙ ap (λ (q : DirectoryEntry). times_of w.times (view_by (view_of (root_of n q.parent))) m.stat.num) b
      ∙ view_stays m.is_new s w.times node m.stat.num
      ∙ ap (λ (z : Known). times_at s z node m.stat.num) is

  entry_then : (w.times ≡ later.times) → IsEntry w.nodes p m.stat (times_at w w.times p.parent m.stat.num) entry → IsEntry n (named node name) m.stat (times_at s later.times node m.stat.num) entry
  entry_then same_times is =
      subst (λ (z : Times). IsEntry n (named node name) m.stat z entry) (told_then same_times)
      (subst (λ (q : DirectoryEntry). IsEntry n q m.stat (times_at w w.times p.parent m.stat.num) entry) b (subst (λ (t : Table). IsEntry t p m.stat (times_at w w.times p.parent m.stat.num) entry) nodes_then is))

  pub created : IsEntry w.nodes p m.stat (times_at w w.times p.parent m.stat.num) entry → later ≡ record w { nodes = looked_up w.nodes p m.stat.num m.stat.kind } → handle ≡ handle_made v view m → o.handle ≡ handle → Says (ShowsCreated n (named node name) m.stat (times_at s later.times node m.stat.num) (handle_made s view m)) (Ok (reply.Created entry o)) × (later ≡ with_created s view pid node name how m)
  created is known handled told = ((entry_then (sym (ap (λ (x : Seen). x.times) known)) is, told ∙ handled ∙ ap (λ (x : Seen). handle_made x view m) before ∙ handle_stays s n k view pid m (handle_of s view m.stat.num)), known_then known)
