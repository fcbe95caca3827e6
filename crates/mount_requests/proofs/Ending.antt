-- Each course ends at an abort.
use Rattle.std.proofs.Common.{◌≡◌, ◌==◌, ◌||◌, ℕ, ℤ, pos, List, [], Bool, true, false, not, Option, Some, None, is_some, refl, ap, ◌∙◌}
use Rattle.std.specs.Prelude.{Result, Ok, Err, if◌then◌else◌}
use Rattle.ids.specs.declared.aspect.Why.{Why}
use Rattle.ids.specs.declared.call.Call.{Call}
use Rattle.ids.specs.declared.call.Call.TheVariants as call
use Rattle.ids.specs.declared.call.Whence.{Whence}
use Rattle.ids.specs.declared.fixed.Special.{Special}
use Rattle.ids.specs.declared.flags.OpenFlags.{OpenFlags}
use Rattle.ids.specs.declared.reply.Kind.{Kind}
use Rattle.ids.specs.declared.reply.Kind.TheVariants.{Dir, Fifo, File, Link, Pipe, Socket}
use Rattle.ids.specs.declared.reply.Stat.{Stat}
use Rattle.ids.specs.declared.rights.NewOwner.{NewOwner}
use Rattle.ids.specs.declared.rights.Owner.{Owner}
use Rattle.ids.specs.declared.rights.Rights.{Rights}
use Rattle.course.specs.Course.{Course, Give, Step, ◌>>=◌}
use Rattle.course.specs.Courses.{both, by_descriptor, changing_at, closing, closing_for, closing_spare, creating, creating_cut, creating_in, cutting, doing, done_with, dropping, dropping_by, dropping_if, entitling_at, entitling_made, entitling_open, finding, finding_at, fresh, if_absent, if_cut, if_entitled, if_found, if_listed, if_same, if_seen, if_there, inside, linking, listing, listing_at, looking_at, looking_for, making, making_directory, making_entitled, making_file, making_inside, making_link, making_node, making_owned, making_special, moving, on_ok, opening, opening_cut, opening_file, opening_this, owning_at, owning_open, placing, permitting_at, permitting_open, reading, reading_link, reading_target, same_or_stale, seeing, seeing_new, sizing_at, sizing_open, stating, told_or_stale, unless_new, updating_at, updating_by, updating_open, writing}
use Rattle.course.specs.Faults.{done_in, gives_none, is_abort, is_missing, is_special, is_there, unless_aborted, unless_special}
use Rattle.course.specs.Rights.{both_of, has_set_ids, nobody, owner_in, rights_in}
use Rattle.course.specs.declared.fault.Fault.{Fault}
use Rattle.course.specs.declared.fault.Fault.TheVariants.{Aborted, Busy, NoMemory, Refused, Stale, Unexpected}
use Rattle.course.specs.declared.files.Made.{Made}
use Rattle.course.specs.declared.made.Cut.{Cut}
use Rattle.course.specs.declared.made.Cut.TheVariants.{Dropping, No, Plain}
use Rattle.course.specs.declared.making.Again.{Again as Uses}
use Rattle.course.specs.declared.objects.Object.{Object}
use Rattle.course.specs.declared.place.Place.{Place}
use Rattle.course.specs.declared.updates.Paths.{Paths}
use Rattle.course.specs.declared.updates.Update.{Update}
use Rattle.mount_requests.specs.Aborts.{EndsAtAborts, IsNoAbort}
use Rattle.mount_requests.proofs.NoAborts.{bytes_no_abort, count_no_abort, done_no_abort, fd_no_abort, names_no_abort, place_no_abort, stat_no_abort}
use Rattle.mount_requests.specs.Found.{handle_of, once}
use Rattle.mount_requests.specs.Requests.{allocating, copying_by, exchanging_by, listed_by, listing_anew, making_open, moving_by, opened_by, put_by, setting_by, written_by}
use Rattle.mount_requests.specs.Seen.{Seen}
use Rattle.mount_requests.specs.declared.changing.Setting.{Setting}
use Rattle.mount_requests.specs.declared.opening.Creation.{Creation}
use Rattle.mount_requests.specs.declared.opening.Opening.{Opening}
use Rattle.mount_requests.specs.declared.opening.Opening.TheVariants.{Again, First}
use Rattle.mount_requests.specs.declared.planning.NewName.{NewName}
use Rattle.mount_requests.specs.declared.reading.Directory.{Directory}
use Rattle.mount_requests.specs.declared.ranges.Allocating.{Allocating}
use Rattle.mount_requests.specs.declared.ranges.Copying.{Copying}
use Rattle.mount_requests.specs.declared.removing.Exchanging.{Exchanging}
use Rattle.mount_requests.specs.declared.removing.Moving.{Moving}

-- what comes behind a course gives an abort on, and ends at aborts itself
behind : {A B : Type 0} (m : Course (Result A Fault)) (f : Result A Fault → Course (Result B Fault)) → EndsAtAborts m → ((why : Why) → f (Err (Aborted why)) ≡ Give (Err (Aborted why))) → ((x : A) → EndsAtAborts (f (Ok x))) → ((e : Fault) → is_abort e ≡ false → EndsAtAborts (f (Err e))) → EndsAtAborts (m >>= f)
behind (Give (Ok x)) f h abort ok err = ok x
behind (Give (Err e)) f h abort ok err = err e h
behind (Step pid op next) f h abort ok err = (λ why again. ap (λ c. c >>= f) (h.0 why again) ∙ abort why, λ r other. behind (next r) f (h.1 r other) abort ok err)

-- what needs its success
then_on : {A B : Type 0} (m : Course (Result A Fault)) (f : A → Course (Result B Fault)) → EndsAtAborts m → ((x : A) → EndsAtAborts (f x)) → EndsAtAborts (m >>= on_ok f)
then_on m f h ok = behind m (on_ok f) h (λ why. refl) ok (λ e other. other)

-- either way
either : {A : Type 0} (b : Bool) (c d : Course (Result A Fault)) → EndsAtAborts c → EndsAtAborts d → EndsAtAborts (if b then c else d)
either true c d h k = h
either false c d h k = k

doing_ends : (pid : ℕ) (c : Call) → EndsAtAborts (doing pid c)
doing_ends pid c = (λ why again. refl, done_no_abort)

stating_ends : (pid : ℕ) (c : Call) → EndsAtAborts (stating pid c)
stating_ends pid c = (λ why again. refl, stat_no_abort)

opening_ends : (pid : ℕ) (path : List ℕ) (flags : OpenFlags) → EndsAtAborts (opening pid path flags)
opening_ends pid path flags = (λ why again. refl, fd_no_abort)

writing_ends : (pid fd : ℕ) (bytes : List ℕ) (offset : ℤ) → EndsAtAborts (writing pid fd bytes offset)
writing_ends pid fd bytes offset = (λ why again. refl, count_no_abort)

listing_ends : (pid : ℕ) (path : List ℕ) → EndsAtAborts (listing pid path)
listing_ends pid path = (λ why again. refl, names_no_abort)

-- another object is no abort
same_no_abort : (same : Bool) → IsNoAbort {A = Unit {0}} (if same then Ok tt else Err Stale)
same_no_abort true = tt
same_no_abort false = refl

stale_no_abort : (none : Bool) (e : Fault) → is_abort e ≡ false → is_abort (if none then Stale else e) ≡ false
stale_no_abort true e other = refl
stale_no_abort false e other = other

looking_for_ends : (pid : ℕ) (path : List ℕ) (inode : ℕ) → EndsAtAborts (looking_for pid path inode)
looking_for_ends pid path inode = behind (stating pid (call.Lstat path)) (λ looked. Give (same_or_stale inode looked)) (stating_ends pid (call.Lstat path)) (λ why. refl) (λ stat. same_no_abort (stat.num == inode)) (λ e other. stale_no_abort (gives_none e) e other)

-- the same, and what it is like
told_no_abort : (same : Bool) (stat : Stat) → IsNoAbort {A = Stat} (if same then Ok stat else Err Stale)
told_no_abort true stat = tt
told_no_abort false stat = refl

looking_at_ends : (pid : ℕ) (d : Place) → EndsAtAborts (looking_at pid d)
looking_at_ends pid d = behind (stating pid (call.Lstat d.path)) (λ looked. Give (told_or_stale d.inode looked)) (stating_ends pid (call.Lstat d.path)) (λ why. refl) (λ stat. told_no_abort (stat.num == d.inode) stat) (λ e other. stale_no_abort (gives_none e) e other)

-- what is made in a directory, which is looked at first
making_inside_ends : {A : Type 0} (pid : ℕ) (d : Place) (make : Stat → Course (Result A Fault)) → ((home : Stat) → EndsAtAborts (make home)) → EndsAtAborts (making_inside pid d make)
making_inside_ends pid d make h = then_on (looking_at pid d) make (looking_at_ends pid d) h

-- what is done in a directory, which is looked for first
inside_ends : {A : Type 0} (pid : ℕ) (d : Option Place) (named : Course (Result A Fault)) → EndsAtAborts named → EndsAtAborts (inside pid d named)
inside_ends pid (Some place) named h = then_on (looking_for pid place.path place.inode) (λ stays. named) (looking_for_ends pid place.path place.inode) (λ stays. h)
inside_ends pid None named h = h

-- the last step of all may be the one that aborted
closed_no_abort : (e : Fault) → is_abort e ≡ false → (r : Result (Unit {0}) Fault) → IsNoAbort r → is_abort (unless_aborted e r) ≡ false
closed_no_abort e other (Ok done) h = other
closed_no_abort e other (Err (Refused x)) h = other
closed_no_abort e other (Err Busy) h = other
closed_no_abort e other (Err NoMemory) h = other
closed_no_abort e other (Err Stale) h = other
closed_no_abort e other (Err Unexpected) h = other
closed_no_abort e other (Err (Aborted why)) h = absurd cc

closing_for_ends : (A : Type 0) (pid fd : ℕ) (e : Fault) → is_abort e ≡ false → EndsAtAborts (closing_for {A = A} pid fd e)
closing_for_ends A pid fd e other = (λ why again. refl, λ r none. closed_no_abort e other (done_in r) (done_no_abort r none))

closing_ends : (A : Type 0) (pid fd : ℕ) (e : Fault) → is_abort e ≡ false → EndsAtAborts (closing {A = A} pid fd e)
closing_ends A pid fd e other = by (is_abort e) other
  where
    by : (b : Bool) → b ≡ false → EndsAtAborts (if b then Give (Err e) else closing_for {A = A} pid fd e)
    by true is = absurd cc
    by false is = closing_for_ends A pid fd e other

done_with_ends : {A : Type 0} (pid fd : ℕ) (x : A) → EndsAtAborts (done_with pid fd x)
done_with_ends pid fd x = then_on (doing pid (call.Close fd)) _ (doing_ends pid (call.Close fd)) (λ done. tt)

dropping_ends : (pid fd : ℕ) → EndsAtAborts (dropping pid fd)
dropping_ends pid fd = doing_ends pid (call.Fchown fd nobody)

cutting_ends : (pid fd : ℕ) (cut : Cut) → EndsAtAborts (cutting pid fd cut)
cutting_ends pid fd No = tt
cutting_ends pid fd Plain = doing_ends pid (call.Ftruncate fd 0)
cutting_ends pid fd Dropping = then_on (dropping pid fd) _ (dropping_ends pid fd) (λ dropped. doing_ends pid (call.Ftruncate fd 0))

if_cut_ends : {A : Type 0} (pid fd : ℕ) (cut : Cut) (x : A) → EndsAtAborts (cutting pid fd cut >>= if_cut pid fd x)
if_cut_ends pid fd cut x = behind (cutting pid fd cut) (if_cut pid fd x) (cutting_ends pid fd cut) (λ why. refl) (λ done. tt) (λ e other. closing_ends _ pid fd e other)

checked_ends : (pid fd inode : ℕ) → EndsAtAborts (stating pid (call.Fstat fd) >>= if_same pid fd inode)
checked_ends pid fd inode = behind (stating pid (call.Fstat fd)) (if_same pid fd inode) (stating_ends pid (call.Fstat fd)) (λ why. refl) (λ stat. either (stat.num == inode) (Give (Ok fd)) (closing pid fd Stale) tt (closing_ends _ pid fd Stale refl)) (λ e other. closing_ends _ pid fd e other)

special_no_abort : (special : Bool) (e : Fault) → is_abort e ≡ false → IsNoAbort {A = ℕ} (if special then Err Stale else Err e)
special_no_abort true e other = refl
special_no_abort false e other = other

opening_file_ends : (pid : ℕ) (path : List ℕ) → EndsAtAborts (opening_file pid path)
opening_file_ends pid path = behind (opening pid path both) (λ opened. Give (unless_special opened)) (opening_ends pid path both) (λ why. refl) (λ fd. tt) (λ e other. special_no_abort (is_special e) e other)

opening_this_ends : (pid : ℕ) (path : List ℕ) (inode : ℕ) → EndsAtAborts (opening_this pid path inode)
opening_this_ends pid path inode = then_on (opening_file pid path) _ (opening_file_ends pid path) (λ fd. checked_ends pid fd inode)

opening_cut_ends : (pid : ℕ) (path : List ℕ) (inode : ℕ) (cut : Cut) → EndsAtAborts (opening_cut pid path inode cut)
opening_cut_ends pid path inode cut = then_on (opening_this pid path inode) _ (opening_this_ends pid path inode) (λ fd. if_cut_ends pid fd cut fd)

seeing_ends : (pid : ℕ) (is_new : Bool) (fd : ℕ) → EndsAtAborts (seeing pid is_new fd)
seeing_ends pid is_new fd = behind (stating pid (call.Fstat fd)) (if_seen pid fd is_new) (stating_ends pid (call.Fstat fd)) (λ why. refl) (λ stat. tt) (λ e other. closing_ends _ pid fd e other)

-- what is set by a descriptor
owning_open_ends : (pid fd : ℕ) (owner : Option NewOwner) → EndsAtAborts (owning_open pid fd owner)
owning_open_ends pid fd (Some owner) = doing_ends pid (call.Fchown fd owner)
owning_open_ends pid fd None = tt

permitting_open_ends : (pid fd : ℕ) (permissions : Option ℕ) → EndsAtAborts (permitting_open pid fd permissions)
permitting_open_ends pid fd (Some permissions) = doing_ends pid (call.Fchmod fd permissions)
permitting_open_ends pid fd None = tt

entitling_open_ends : (pid fd : ℕ) (owner : Option NewOwner) (permissions : Option ℕ) → EndsAtAborts (entitling_open pid fd owner permissions)
entitling_open_ends pid fd owner permissions = then_on (owning_open pid fd owner) _ (owning_open_ends pid fd owner) (λ owned. permitting_open_ends pid fd permissions)

seeing_new_ends : (pid : ℕ) (rights : Rights) (fd : ℕ) → EndsAtAborts (seeing_new pid rights fd)
seeing_new_ends pid rights fd =
    let owner : Option NewOwner = Some (both_of rights.owner) in
    let permissions : Option ℕ = Some rights.permissions in
    behind (entitling_open pid fd owner permissions) (if_entitled pid fd) (entitling_open_ends pid fd owner permissions) (λ why. refl) (λ done. seeing_ends pid true fd) (λ e other. closing_ends _ pid fd e other)

not_there : (pid : ℕ) (path : List ℕ) (exclusive : Bool) (rights : Rights) (why : Why) → if_there pid path exclusive rights (Err (Aborted why)) ≡ Give (Err (Aborted why))
not_there pid path true rights why = refl
not_there pid path false rights why = refl

creating_ends : (pid : ℕ) (path again : List ℕ) (exclusive : Bool) (rights : Rights) → EndsAtAborts (creating pid path again exclusive rights)
creating_ends pid path again exclusive rights =
    behind (opening pid path fresh) (if_there pid again exclusive rights) (opening_ends pid path fresh) (not_there pid again exclusive rights) (λ fd. seeing_new_ends pid rights fd)
    (λ e other. either (exclusive || not (is_there e)) (Give (Err e)) (opening_file pid again >>= on_ok (seeing pid false)) other (then_on (opening_file pid again) (seeing pid false) (opening_file_ends pid again) (seeing_ends pid false)))

creating_cut_ends : (pid : ℕ) (path again : List ℕ) (exclusive : Bool) (cut : Cut) (rights : Rights) → EndsAtAborts (creating_cut pid path again exclusive cut rights)
creating_cut_ends pid path again exclusive cut rights = then_on (creating pid path again exclusive rights) _ (creating_ends pid path again exclusive rights) (λ made. if_cut_ends pid made.fd (unless_new made.is_new cut) made)

closing_spare_ends : (pid : ℕ) (is_open : Bool) (made : Made) → EndsAtAborts (closing_spare pid is_open made)
closing_spare_ends pid true made = done_with_ends pid made.fd made
closing_spare_ends pid false made = tt

by_descriptor_ends : (pid : ℕ) (kind : Kind) (inode : ℕ) (fd : Option ℕ) → EndsAtAborts (by_descriptor pid kind inode fd)
by_descriptor_ends pid kind inode (Some fd) = stating_ends pid (call.Fstat fd)
by_descriptor_ends pid Dir inode None = tt
by_descriptor_ends pid File inode None = refl
by_descriptor_ends pid Pipe inode None = refl
by_descriptor_ends pid Link inode None = refl
by_descriptor_ends pid Fifo inode None = tt
by_descriptor_ends pid Socket inode None = tt

finding_at_ends : (pid : ℕ) (kind : Kind) (inode : ℕ) (fd : Option ℕ) (path : Option (List ℕ)) → EndsAtAborts (finding_at pid kind inode fd path)
finding_at_ends pid kind inode fd (Some path) =
    behind (stating pid (call.Lstat path)) (if_found pid kind inode fd) (stating_ends pid (call.Lstat path)) (λ why. refl)
    (λ stat. either (stat.num == inode) (Give (Ok stat)) (by_descriptor pid kind inode fd) tt (by_descriptor_ends pid kind inode fd))
    (λ e other. either (gives_none e) (by_descriptor pid kind inode fd) (Give (Err e)) (by_descriptor_ends pid kind inode fd) other)
finding_at_ends pid kind inode fd None = by_descriptor_ends pid kind inode fd

-- what is set of an object
sizing_open_ends : (pid fd : ℕ) (length : Option ℕ) → EndsAtAborts (sizing_open pid fd length)
sizing_open_ends pid fd (Some length) = doing_ends pid (call.Ftruncate fd length)
sizing_open_ends pid fd None = tt

updating_open_ends : (pid fd : ℕ) (u : Update) → EndsAtAborts (updating_open pid fd u)
updating_open_ends pid fd u = then_on (sizing_open pid fd u.length) _ (sizing_open_ends pid fd u.length) (λ sized. entitling_open_ends pid fd u.owner u.permissions)

sizing_at_ends : (pid : ℕ) (path : List ℕ) (length : Option ℕ) → EndsAtAborts (sizing_at pid path length)
sizing_at_ends pid path (Some length) = doing_ends pid (call.Truncate path length)
sizing_at_ends pid path None = tt

owning_at_ends : (pid : ℕ) (path : List ℕ) (owner : Option NewOwner) → EndsAtAborts (owning_at pid path owner)
owning_at_ends pid path (Some owner) = doing_ends pid (call.Chown path owner)
owning_at_ends pid path None = tt

permitting_at_ends : (pid : ℕ) (path : List ℕ) (permissions : Option ℕ) → EndsAtAborts (permitting_at pid path permissions)
permitting_at_ends pid path (Some permissions) = doing_ends pid (call.Chmod path permissions)
permitting_at_ends pid path None = tt

entitling_at_ends : (pid : ℕ) (owned permitted : List ℕ) (owner : Option NewOwner) (permissions : Option ℕ) → EndsAtAborts (entitling_at pid owned permitted owner permissions)
entitling_at_ends pid owned permitted owner permissions = then_on (owning_at pid owned owner) _ (owning_at_ends pid owned owner) (λ done. permitting_at_ends pid permitted permissions)

changing_at_ends : (pid : ℕ) (sized owned permitted : List ℕ) (u : Update) → EndsAtAborts (changing_at pid sized owned permitted u)
changing_at_ends pid sized owned permitted u = then_on (sizing_at pid sized u.length) _ (sizing_at_ends pid sized u.length) (λ done. entitling_at_ends pid owned permitted u.owner u.permissions)

updating_at_ends : (pid inode : ℕ) (paths : Paths) (u : Update) → EndsAtAborts (updating_at pid inode paths u)
updating_at_ends pid inode paths u = then_on (looking_for pid paths.looked inode) _ (looking_for_ends pid paths.looked inode) (λ same. changing_at_ends pid paths.sized paths.owned paths.permitted u)

updating_by_ends : (pid inode : ℕ) (fd : Option ℕ) (paths : Option Paths) (u : Update) → EndsAtAborts (updating_by pid inode fd paths u)
updating_by_ends pid inode (Some fd) paths u = updating_open_ends pid fd u
updating_by_ends pid inode None (Some paths) u = updating_at_ends pid inode paths u
updating_by_ends pid inode None None u = refl

-- set-user-ID and set-group-ID that go
dropping_if_ends : (pid fd : ℕ) (wanted : Bool) → EndsAtAborts (dropping_if pid fd wanted)
dropping_if_ends pid fd true =
    then_on (stating pid (call.Fstat fd)) (dropping_by pid fd) (stating_ends pid (call.Fstat fd)) (λ stat. either (has_set_ids stat.rights.permissions) (dropping pid fd) (Give (Ok tt)) (dropping_ends pid fd) tt)
dropping_if_ends pid fd false = tt

listing_at_ends : (pid inode : ℕ) (path : Option (List ℕ)) → EndsAtAborts (listing_at pid inode path)
listing_at_ends pid inode (Some path) =
    behind (stating pid (call.Lstat path)) (if_listed pid path inode) (stating_ends pid (call.Lstat path)) (λ why. refl)
    (λ stat. either (stat.num == inode) (listing pid path) (Give (Ok [])) (listing_ends pid path) tt)
    (λ e other. either (gives_none e) (Give (Ok [])) (Give (Err e)) tt other)
listing_at_ends pid inode None = tt

-- ---- the courses of requests

pub look : (pid : ℕ) (c : Call) → EndsAtAborts (stating pid c)
look pid c = stating_ends pid c

pub look_up : (pid : ℕ) (d : Option Place) (c : Call) → EndsAtAborts (inside pid d (stating pid c))
look_up pid d c = inside_ends pid d (stating pid c) (stating_ends pid c)

pub find : (pid : ℕ) (o : Object) → EndsAtAborts (finding pid o)
find pid o = finding_at_ends pid o.kind o.inode o.fd o.path

pub set : (pid : ℕ) (s : Setting) (update : Option Update) → EndsAtAborts (setting_by pid s update)
set pid s (Some u) = then_on (updating_by pid s.object.inode s.object.fd s.paths u) _ (updating_by_ends pid s.object.inode s.object.fd s.paths u) (λ done. find pid s.object)
set pid s None = find pid s.object

making_ends : (pid : ℕ) (c : Call) (path : List ℕ) → EndsAtAborts (making pid c path)
making_ends pid c path = then_on (doing pid c) _ (doing_ends pid c) (λ done. stating_ends pid (call.Lstat path))

entitling_made_ends : (pid : ℕ) (a : Uses) (rights : Rights) → EndsAtAborts (entitling_made pid a rights)
entitling_made_ends pid a rights = then_on (doing pid (call.Chown a.owned (both_of rights.owner))) _ (doing_ends pid (call.Chown a.owned (both_of rights.owner))) (λ owned. making_ends pid (call.Chmod a.permitted rights.permissions) a.told)

making_entitled_ends : (pid : ℕ) (c : Call) (a : Uses) (rights : Rights) → EndsAtAborts (making_entitled pid c a rights)
making_entitled_ends pid c a rights = then_on (doing pid c) _ (doing_ends pid c) (λ made. entitling_made_ends pid a rights)

pub make_directory : (pid : ℕ) (d : Place) (path : List ℕ) (a : Uses) (given : Rights) → EndsAtAborts (making_inside pid d (making_directory pid path a given))
make_directory pid d path a given = making_inside_ends pid d (making_directory pid path a given) (λ home. making_entitled_ends pid (call.Mkdir path) a (rights_in true home.rights given))

making_owned_ends : (pid : ℕ) (c : Call) (a : Uses) (owner : Owner) → EndsAtAborts (making_owned pid c a owner)
making_owned_ends pid c a owner = then_on (doing pid c) _ (doing_ends pid c) (λ made. making_ends pid (call.Chown a.owned (both_of owner)) a.told)

pub make_link : (pid : ℕ) (d : Place) (target path : List ℕ) (a : Uses) (owner : Owner) → EndsAtAborts (making_inside pid d (making_link pid target path a owner))
make_link pid d target path a owner = making_inside_ends pid d (making_link pid target path a owner) (λ home. making_owned_ends pid (call.Symlink target path) a (owner_in home.rights owner))

making_file_ends : (pid : ℕ) (path told : List ℕ) (rights : Rights) → EndsAtAborts (making_file pid path told rights)
making_file_ends pid path told rights = then_on (creating pid path told true rights) _ (creating_ends pid path told true rights) (λ made. done_with_ends pid made.fd made.stat)

making_special_ends : (pid : ℕ) (special : Option Special) (path : List ℕ) (a : Uses) (rights : Rights) → EndsAtAborts (making_special pid special path a rights)
making_special_ends pid None path a rights = making_file_ends pid path a.told rights
making_special_ends pid (Some special) path a rights = making_entitled_ends pid (call.Mknod path special) a rights

pub make_node : (pid : ℕ) (d : Place) (special : Option Special) (path : List ℕ) (a : Uses) (given : Rights) → EndsAtAborts (making_inside pid d (making_node pid special path a given))
make_node pid d special path a given = making_inside_ends pid d (making_node pid special path a given) (λ home. making_special_ends pid special path a (rights_in false home.rights given))

reading_target_ends : (pid : ℕ) (path : List ℕ) → EndsAtAborts (reading_target pid path)
reading_target_ends pid path = (λ why again. refl, bytes_no_abort)

pub read_link : (pid : ℕ) (path : List ℕ) (inode : ℕ) → EndsAtAborts (reading_link pid path inode)
read_link pid path inode = then_on (looking_for pid path inode) _ (looking_for_ends pid path inode) (λ same. reading_target_ends pid path)

linking_ends : (pid : ℕ) (path : List ℕ) (inode : ℕ) (new_path : List ℕ) → EndsAtAborts (linking pid path inode new_path)
linking_ends pid path inode new_path = then_on (looking_for pid path inode) _ (looking_for_ends pid path inode) (λ same. making_ends pid (call.Link path new_path) new_path)

pub link : (pid : ℕ) (d : Option Place) (path : List ℕ) (inode : ℕ) (new_path : List ℕ) → EndsAtAborts (inside pid d (linking pid path inode new_path))
link pid d path inode new_path = inside_ends pid d (linking pid path inode new_path) (linking_ends pid path inode new_path)

pub remove : (pid : ℕ) (d : Option Place) (c : Call) → EndsAtAborts (inside pid d (doing pid c))
remove pid d c = inside_ends pid d (doing pid c) (doing_ends pid c)

moving_ends : (pid : ℕ) (from to : List ℕ) (absent : Bool) → EndsAtAborts (moving pid from to absent)
moving_ends pid from to false = doing_ends pid (call.Rename from to)
moving_ends pid from to true = behind (stating pid (call.Lstat to)) (if_absent pid from to) (stating_ends pid (call.Lstat to)) (λ why. refl) (λ stat. refl) (λ e other. either (is_missing e) (doing pid (call.Rename from to)) (Give (Err e)) (doing_ends pid (call.Rename from to)) other)

pub move_name : (pid : ℕ) (m : Moving) → EndsAtAborts (moving_by pid m)
move_name pid m =
    let move : Course (Result (Unit {0}) Fault) = moving pid m.from.path m.to.path m.absent in
    inside_ends pid m.from.place (inside pid m.to.place move) (inside_ends pid m.to.place move (moving_ends pid m.from.path m.to.path m.absent))

pub exchange : (pid : ℕ) (e : Exchanging) → EndsAtAborts (exchanging_by pid e)
exchange pid e =
    let swap : Course (Result (Unit {0}) Fault) = doing pid (call.Exchange e.first.path e.second.path) in
    inside_ends pid e.first.place (inside pid e.second.place swap) (inside_ends pid e.second.place swap (doing_ends pid (call.Exchange e.first.path e.second.path)))

pub open_file : (pid : ℕ) (cut : Cut) (how : Opening) → EndsAtAborts (opened_by pid cut how)
open_file pid cut (Again inode handle fd) = then_on (cutting pid fd cut) _ (cutting_ends pid fd cut) (λ done. tt)
open_file pid cut (First view path inode) = opening_cut_ends pid path inode cut

pub create : (s : Seen) (pid : ℕ) (c : Creation) (p : NewName) → EndsAtAborts (making_open s pid c p)
create s pid c p =
    let make : Stat → Course (Result Made Fault) = creating_in pid p.path p.again.told c.exclusive c.cut c.given in
    then_on (making_inside pid p.parent make) _ (making_inside_ends pid p.parent make (λ home. creating_cut_ends pid p.path p.again.told c.exclusive c.cut (rights_in false home.rights c.given))) (λ made. closing_spare_ends pid (is_some (handle_of s p.view made.stat.num)) made)

pub read : (pid fd count : ℕ) (offset : ℤ) → EndsAtAborts (reading pid fd count offset)
read pid fd count offset = (λ why again. refl, bytes_no_abort)

put_ends : (pid : ℕ) (bytes : List ℕ) (fd : ℕ) (offset : Option ℤ) → EndsAtAborts (put_by pid bytes fd offset)
put_ends pid bytes fd (Some offset) = writing_ends pid fd bytes offset
put_ends pid bytes fd None = then_on (stating pid (call.Fstat fd)) _ (stating_ends pid (call.Fstat fd)) (λ stat. writing_ends pid fd bytes (pos stat.size))

pub write : (pid : ℕ) (bytes : List ℕ) (wanted : Bool) (fd : ℕ) (offset : Option ℤ) → EndsAtAborts (written_by pid bytes wanted fd offset)
write pid bytes wanted fd offset = then_on (dropping_if pid fd wanted) _ (dropping_if_ends pid fd wanted) (λ dropped. put_ends pid bytes fd offset)

pub seek : (pid fd : ℕ) (offset : ℤ) (whence : Whence) → EndsAtAborts (placing pid fd offset whence)
seek pid fd offset whence = (λ why again. refl, place_no_abort)

pub allocate : (pid : ℕ) (a : Allocating) → EndsAtAborts (allocating pid a)
allocate pid a = doing_ends pid (call.Fallocate a.fd a.offset a.length a.space)

pub copy : (pid : ℕ) (c : Copying) → EndsAtAborts (copying_by pid c)
copy pid c = then_on (reading pid c.from c.count c.offset) _ (read pid c.from c.count c.offset) (λ bytes. writing_ends pid c.to bytes c.place)

pub list : (pid : ℕ) (d : Directory) → EndsAtAborts (listed_by pid d)
list pid d = listing_at_ends pid d.inode (once d.paths)

pub list_anew : (pid node : ℕ) (names : List (List ℕ)) (d : Option Directory) → EndsAtAborts (listing_anew pid node names d)
list_anew pid node names (Some d) = then_on (listed_by pid d) _ (list pid d) (λ taken. tt)
list_anew pid node names None = tt
