-- Behind an abort nothing of a request steps: a further step of the process would be a plain call.
use Rattle.std.specs.Prelude.{◌≡◌, ℕ, ℤ, List, Bool, true, false, Option, Result, Ok, Err}
use Rattle.ids.specs.declared.aspect.Why.{Why}
use Rattle.ids.specs.declared.call.Call.{Call}
use Rattle.ids.specs.declared.call.Whence.{Whence}
use Rattle.ids.specs.declared.fixed.Special.{Special}
use Rattle.ids.specs.declared.rights.Owner.{Owner}
use Rattle.ids.specs.declared.rights.Rights.{Rights}
use Rattle.ids.specs.declared.reply.Reply.{Reply}
use Rattle.ids.specs.declared.reply.Reply.TheVariants as reply
use Rattle.course.specs.Course.{Course, Give, Step}
use Rattle.course.specs.Courses.{doing, finding, inside, linking, making_directory, making_inside}
use Rattle.course.specs.Courses.{making_link, making_node, placing, reading, reading_link, stating}
use Rattle.course.specs.Faults.{is_abort}
use Rattle.course.specs.declared.fault.Fault.{Fault}
use Rattle.course.specs.declared.fault.Fault.TheVariants.{Aborted}
use Rattle.course.specs.declared.made.Cut.{Cut}
use Rattle.course.specs.declared.making.Again.{Again}
use Rattle.course.specs.declared.objects.Object.{Object}
use Rattle.course.specs.declared.place.Place.{Place}
use Rattle.course.specs.declared.updates.Update.{Update}
use Rattle.mount_requests.specs.Requests.{allocating, copying_by, exchanging_by, listed_by}
use Rattle.mount_requests.specs.Requests.{listing_anew, making_open, moving_by, opened_by}
use Rattle.mount_requests.specs.Requests.{setting_by, written_by}
use Rattle.mount_requests.specs.Seen.{Seen}
use Rattle.mount_requests.specs.declared.changing.Setting.{Setting}
use Rattle.mount_requests.specs.declared.opening.Creation.{Creation}
use Rattle.mount_requests.specs.declared.opening.Opening.{Opening}
use Rattle.mount_requests.specs.declared.planning.NewName.{NewName}
use Rattle.mount_requests.specs.declared.reading.Directory.{Directory}
use Rattle.mount_requests.specs.declared.ranges.Allocating.{Allocating}
use Rattle.mount_requests.specs.declared.ranges.Copying.{Copying}
use Rattle.mount_requests.specs.declared.removing.Exchanging.{Exchanging}
use Rattle.mount_requests.specs.declared.removing.Moving.{Moving}

-- whether a reply tells of an abort
abbrev pub tells_abort : Reply → Bool
tells_abort (reply.Aborted why again) = true
tells_abort _ = false

-- an outcome that is no abort
abbrev pub IsNoAbort : {A : Type 0} → Result A Fault → Type 0
IsNoAbort (Ok x) = Unit {0}
IsNoAbort (Err e) = is_abort e ≡ false

-- Where a step is answered with an abort the course is at its end, and that is its outcome: it has the
-- cause that the step was told. No other outcome is an abort.
abbrev pub EndsAtAborts : {A : Type 0} → Course (Result A Fault) → Type 0
EndsAtAborts (Give r) = IsNoAbort r
EndsAtAborts (Step pid op next) =
    ((why : Why) (again : Bool) → next (reply.Aborted why again) ≡ Give (Err (Aborted why)))
    × ((r : Reply) → tells_abort r ≡ false → EndsAtAborts (next r))

-- the courses of all requests about nodes
pub record RequestsEndAtAborts : Type 0 where
  pub look : (pid : ℕ) (c : Call) → EndsAtAborts (stating pid c)
  pub look_up : (pid : ℕ) (d : Option Place) (c : Call) → EndsAtAborts (inside pid d (stating pid c))
  pub find : (pid : ℕ) (o : Object) → EndsAtAborts (finding pid o)
  pub read_link : (pid : ℕ) (path : List ℕ) (inode : ℕ) → EndsAtAborts (reading_link pid path inode)
  pub set : (pid : ℕ) (s : Setting) (update : Option Update) → EndsAtAborts (setting_by pid s update)
  pub make_directory : (pid : ℕ) (d : Place) (path : List ℕ) (again : Again) (given : Rights)
      → EndsAtAborts (making_inside pid d (making_directory pid path again given))
  pub make_link : (pid : ℕ) (d : Place) (target path : List ℕ) (again : Again) (owner : Owner)
      → EndsAtAborts (making_inside pid d (making_link pid target path again owner))
  pub make_node : (pid : ℕ) (d : Place) (special : Option Special) (path : List ℕ) (again : Again)
      (given : Rights) → EndsAtAborts (making_inside pid d (making_node pid special path again given))
  pub link : (pid : ℕ) (d : Option Place) (path : List ℕ) (inode : ℕ) (new_path : List ℕ)
      → EndsAtAborts (inside pid d (linking pid path inode new_path))
  pub remove : (pid : ℕ) (d : Option Place) (c : Call) → EndsAtAborts (inside pid d (doing pid c))
  pub exchange : (pid : ℕ) (e : Exchanging) → EndsAtAborts (exchanging_by pid e)
  pub move : (pid : ℕ) (m : Moving) → EndsAtAborts (moving_by pid m)
  pub open_file : (pid : ℕ) (cut : Cut) (how : Opening) → EndsAtAborts (opened_by pid cut how)
  pub create : (s : Seen) (pid : ℕ) (c : Creation) (p : NewName) → EndsAtAborts (making_open s pid c p)
  pub read : (pid fd count : ℕ) (offset : ℤ) → EndsAtAborts (reading pid fd count offset)
  pub write : (pid : ℕ) (bytes : List ℕ) (dropping : Bool) (fd : ℕ) (offset : Option ℤ)
      → EndsAtAborts (written_by pid bytes dropping fd offset)
  pub seek : (pid fd : ℕ) (offset : ℤ) (whence : Whence) → EndsAtAborts (placing pid fd offset whence)
  pub allocate : (pid : ℕ) (a : Allocating) → EndsAtAborts (allocating pid a)
  pub copy : (pid : ℕ) (c : Copying) → EndsAtAborts (copying_by pid c)
  pub list : (pid : ℕ) (d : Directory) → EndsAtAborts (listed_by pid d)
  pub list_anew : (pid node : ℕ) (names : List (List ℕ)) (d : Option Directory)
      → EndsAtAborts (listing_anew pid node names d)
