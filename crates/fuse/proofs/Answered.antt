-- Which requests are answered is told by their opcodes.
use Rattle.std.proofs.Common.{◌≡◌, ℕ, ◌+◌, ◌*◌, Bool, true, false, cond, eqb, ltb, List, length, drop, Option, Some, None, refl}
use Rattle.std.specs.Prelude.{not, option_map}
use Rattle.std.proofs.lemmas.Bool.{eqb-true}
use Rattle.fuse.specs.declared.request.Operation.{Operation}
use Rattle.fuse.specs.declared.request.Operation.TheVariants as op
use Rattle.fuse.specs.Bodies.{access_in, batch_forget_in, behind, changes_in, copy_file_range_in, create_in, destroy_in, fallocate_in, flush_in, forget_in, forgets_in, fsync_in, getattr_in, init_in, interrupt_in, link_in, lookup_in, lseek_in, mkdir_in, mknod_in, of_length, open_in, opendir_in, read_in, readdir_in, readlink_in, release_in, releasedir_in, rename2_in, rename_in, rmdir_in, setattr_in, statfs_in, symlink_in, unlink_in, whence_of, where_set, write_in}
use Rattle.fuse.specs.Names.{name_and_text_in, name_in, names_in}
use Rattle.fuse.specs.Numbers.{u32_at, u64_at}
use Rattle.fuse.specs.Operations.{file_operation_in, is_answered, is_silent, node_operation_in, operation_in, session_operation_in}

-- what is asked, if anything, is answered or not
abbrev pub Tells : Bool → Option Operation → Type 0
Tells b asked = (operation : Operation) → asked ≡ Some operation → is_answered operation ≡ b

none_tells : (b : Bool) → Tells b None
none_tells b = λ operation e. absurd cc

some_tells : (b : Bool) (asked : Operation) → is_answered asked ≡ b → Tells b (Some asked)
some_tells b asked is = λ operation e.
    let same : asked ≡ operation = cc in
    rw (← same) is

-- either of two
either_tells : (b c : Bool) (x y : Option Operation) → Tells b x → Tells b y → Tells b (cond c x y)
either_tells b true x y hx hy = hx
either_tells b false x y hx hy = hy

of_length_tells : (b : Bool) (n : ℕ) (body : List ℕ) (asked : Operation) → is_answered asked ≡ b → Tells b (of_length n body asked)
of_length_tells b n body asked is = either_tells b (eqb (length body) n) (Some asked) None (some_tells b asked is) (none_tells b)

map_tells : {A : Type 0} → (f : A → Operation) (x : Option A) → ((a : A) → is_answered (f a) ≡ true) → Tells true (option_map f x)
map_tells f None is = none_tells true
map_tells f (Some a) is = some_tells true (f a) (is a)

lookup_tells : (body : List ℕ) → Tells true (lookup_in body)
unfolding lookup_in
lookup_tells body = map_tells (λ name. op.Lookup name) (name_in body) (λ x. refl)

symlink_tells : (body : List ℕ) → Tells true (symlink_in body)
unfolding symlink_in
symlink_tells body = map_tells (λ texts. op.SymLink texts.0 texts.1) (name_and_text_in body) (λ x. refl)

mknod_tells : (body : List ℕ) → Tells true (mknod_in body)
unfolding mknod_in
mknod_tells body = map_tells (λ name. op.MkNod name (u32_at body 0)) (behind 16 name_in body) (λ x. refl)

mkdir_tells : (body : List ℕ) → Tells true (mkdir_in body)
unfolding mkdir_in
mkdir_tells body = map_tells (λ name. op.MkDir name (u32_at body 0)) (behind 8 name_in body) (λ x. refl)

unlink_tells : (body : List ℕ) → Tells true (unlink_in body)
unfolding unlink_in
unlink_tells body = map_tells (λ name. op.Unlink name) (name_in body) (λ x. refl)

rmdir_tells : (body : List ℕ) → Tells true (rmdir_in body)
unfolding rmdir_in
rmdir_tells body = map_tells (λ name. op.RmDir name) (name_in body) (λ x. refl)

rename_tells : (body : List ℕ) → Tells true (rename_in body)
unfolding rename_in
rename_tells body = map_tells (λ names. op.Rename names.0 (u64_at body 0) names.1 0) (behind 8 names_in body) (λ x. refl)

link_tells : (body : List ℕ) → Tells true (link_in body)
unfolding link_in
link_tells body = map_tells (λ name. op.Link (u64_at body 0) name) (behind 8 name_in body) (λ x. refl)

create_tells : (body : List ℕ) → Tells true (create_in body)
unfolding create_in
create_tells body = map_tells (λ name. op.Create name (u32_at body 0) (u32_at body 4) (u32_at body 12)) (behind 16 name_in body) (λ x. refl)

rename2_tells : (body : List ℕ) → Tells true (rename2_in body)
unfolding rename2_in
rename2_tells body = map_tells (λ names. op.Rename names.0 (u64_at body 0) names.1 (u32_at body 8)) (behind 16 names_in body) (λ x. refl)

open_tells : (body : List ℕ) → Tells true (open_in body)
unfolding open_in
open_tells body = of_length_tells true 8 body (op.Open (u32_at body 0) (u32_at body 4)) refl

read_tells : (body : List ℕ) → Tells true (read_in body)
unfolding read_in
read_tells body = of_length_tells true 40 body (op.Read (u64_at body 0) (u64_at body 8) (u32_at body 16) (u32_at body 32)) refl

write_tells : (body : List ℕ) → Tells true (write_in body)
unfolding write_in
write_tells body =
    let asked : Operation = op.Write (u64_at body 0) (u64_at body 8) (u32_at body 20) (u32_at body 32) (drop 40 body) in
    either_tells true (ltb (length body) 40) None (cond (eqb (40 + u32_at body 16) (length body)) (Some asked) None) (none_tells true)
    (either_tells true (eqb (40 + u32_at body 16) (length body)) (Some asked) None (some_tells true asked refl) (none_tells true))

release_tells : (body : List ℕ) → Tells true (release_in body)
unfolding release_in
release_tells body = of_length_tells true 24 body (op.Release (u64_at body 0) (u32_at body 8)) refl

fsync_tells : (body : List ℕ) → Tells true (fsync_in body)
unfolding fsync_in
fsync_tells body = of_length_tells true 16 body (op.Fsync (u64_at body 0)) refl

flush_tells : (body : List ℕ) → Tells true (flush_in body)
unfolding flush_in
flush_tells body = of_length_tells true 24 body (op.Flush (u64_at body 0)) refl

lseek_tells : (body : List ℕ) → Tells true (lseek_in body)
unfolding lseek_in
lseek_tells body =
    let asked : Option Operation = option_map (λ from. op.Lseek (u64_at body 0) (u64_at body 8) from) (whence_of (u32_at body 16)) in
    either_tells true (eqb (length body) 24) asked None (map_tells (λ from. op.Lseek (u64_at body 0) (u64_at body 8) from) (whence_of (u32_at body 16)) (λ x. refl)) (none_tells true)

fallocate_tells : (body : List ℕ) → Tells true (fallocate_in body)
unfolding fallocate_in
fallocate_tells body = of_length_tells true 32 body (op.Fallocate (u64_at body 0) (u64_at body 8) (u64_at body 16) (u32_at body 24)) refl

copy_file_range_tells : (body : List ℕ) → Tells true (copy_file_range_in body)
unfolding copy_file_range_in
copy_file_range_tells body = of_length_tells true 56 body (op.CopyFileRange (u64_at body 0) (u64_at body 8) (u64_at body 16) (u64_at body 24) (u64_at body 32) (u64_at body 40) (u64_at body 48)) refl

getattr_tells : (body : List ℕ) → Tells true (getattr_in body)
unfolding getattr_in
getattr_tells body = of_length_tells true 16 body (op.GetAttr (where_set (u32_at body 0) 1 (u64_at body 8))) refl

setattr_tells : (body : List ℕ) → Tells true (setattr_in body)
unfolding setattr_in
setattr_tells body = of_length_tells true 88 body (op.SetAttr (changes_in body)) refl

readlink_tells : (body : List ℕ) → Tells true (readlink_in body)
unfolding readlink_in
readlink_tells body = of_length_tells true 0 body (op.ReadLink) refl

statfs_tells : (body : List ℕ) → Tells true (statfs_in body)
unfolding statfs_in
statfs_tells body = of_length_tells true 0 body (op.StatFs) refl

opendir_tells : (body : List ℕ) → Tells true (opendir_in body)
unfolding opendir_in
opendir_tells body = of_length_tells true 8 body (op.OpenDir) refl

readdir_tells : (body : List ℕ) → Tells true (readdir_in body)
unfolding readdir_in
readdir_tells body = of_length_tells true 40 body (op.ReadDir (u64_at body 0) (u64_at body 8) (u32_at body 16)) refl

releasedir_tells : (body : List ℕ) → Tells true (releasedir_in body)
unfolding releasedir_in
releasedir_tells body = of_length_tells true 24 body (op.ReleaseDir (u64_at body 0)) refl

access_tells : (body : List ℕ) → Tells true (access_in body)
unfolding access_in
access_tells body = of_length_tells true 8 body (op.Access (u32_at body 0)) refl

forget_tells : (body : List ℕ) → Tells false (forget_in body)
unfolding forget_in
forget_tells body = of_length_tells false 8 body (op.Forget (u64_at body 0)) refl

init_tells : (body : List ℕ) → Tells true (init_in body)
unfolding init_in
init_tells body =
    let asked : Operation = op.Init (u32_at body 0) (u32_at body 4) (u32_at body 8) (u32_at body 12) in
    either_tells true (ltb (length body) 16) None (Some asked) (none_tells true) (some_tells true asked refl)

interrupt_tells : (body : List ℕ) → Tells false (interrupt_in body)
unfolding interrupt_in
interrupt_tells body = of_length_tells false 8 body (op.Interrupt (u64_at body 0)) refl

destroy_tells : (body : List ℕ) → Tells true (destroy_in body)
unfolding destroy_in
destroy_tells body = of_length_tells true 0 body (op.Destroy) refl

batch_forget_tells : (body : List ℕ) → Tells false (batch_forget_in body)
unfolding batch_forget_in
batch_forget_tells body =
    let asked : Operation = op.BatchForget (forgets_in (u32_at body 0) (drop 8 body)) in
    either_tells false (ltb (length body) 8) None (cond (eqb (8 + 16 * u32_at body 0) (length body)) (Some asked) None) (none_tells false)
    (either_tells false (eqb (8 + 16 * u32_at body 0) (length body)) (Some asked) None (some_tells false asked refl) (none_tells false))

-- a fact of every number holds where it holds of one, and of every other
where_it_is : (n opcode : ℕ) (P : ℕ → Type 0) (t : Bool) → eqb opcode n ≡ t → P n → (eqb opcode n ≡ false → P opcode) → P opcode
where_it_is n opcode P true e here other = rw (eqb-true opcode n e) here
where_it_is n opcode P false e here other = other e

pub operation_tells : (opcode : ℕ) (body : List ℕ) → Tells (not (is_silent opcode)) (operation_in opcode body)
unfolding operation_in file_operation_in node_operation_in session_operation_in
operation_tells opcode body =
    let P : ℕ → Type 0 = λ n. Tells (not (is_silent n)) (operation_in n body) in
    where_it_is 1 opcode P (eqb opcode 1) refl (lookup_tells body) (λ e1.
    where_it_is 6 opcode P (eqb opcode 6) refl (symlink_tells body) (λ e6.
    where_it_is 8 opcode P (eqb opcode 8) refl (mknod_tells body) (λ e8.
    where_it_is 9 opcode P (eqb opcode 9) refl (mkdir_tells body) (λ e9.
    where_it_is 10 opcode P (eqb opcode 10) refl (unlink_tells body) (λ e10.
    where_it_is 11 opcode P (eqb opcode 11) refl (rmdir_tells body) (λ e11.
    where_it_is 12 opcode P (eqb opcode 12) refl (rename_tells body) (λ e12.
    where_it_is 13 opcode P (eqb opcode 13) refl (link_tells body) (λ e13.
    where_it_is 35 opcode P (eqb opcode 35) refl (create_tells body) (λ e35.
    where_it_is 45 opcode P (eqb opcode 45) refl (rename2_tells body) (λ e45.
    where_it_is 14 opcode P (eqb opcode 14) refl (open_tells body) (λ e14.
    where_it_is 15 opcode P (eqb opcode 15) refl (read_tells body) (λ e15.
    where_it_is 16 opcode P (eqb opcode 16) refl (write_tells body) (λ e16.
    where_it_is 18 opcode P (eqb opcode 18) refl (release_tells body) (λ e18.
    where_it_is 20 opcode P (eqb opcode 20) refl (fsync_tells body) (λ e20.
    where_it_is 25 opcode P (eqb opcode 25) refl (flush_tells body) (λ e25.
    where_it_is 43 opcode P (eqb opcode 43) refl (fallocate_tells body) (λ e43.
    where_it_is 46 opcode P (eqb opcode 46) refl (lseek_tells body) (λ e46.
    where_it_is 47 opcode P (eqb opcode 47) refl (copy_file_range_tells body) (λ e47.
    where_it_is 3 opcode P (eqb opcode 3) refl (getattr_tells body) (λ e3.
    where_it_is 4 opcode P (eqb opcode 4) refl (setattr_tells body) (λ e4.
    where_it_is 5 opcode P (eqb opcode 5) refl (readlink_tells body) (λ e5.
    where_it_is 17 opcode P (eqb opcode 17) refl (statfs_tells body) (λ e17.
    where_it_is 27 opcode P (eqb opcode 27) refl (opendir_tells body) (λ e27.
    where_it_is 28 opcode P (eqb opcode 28) refl (readdir_tells body) (λ e28.
    where_it_is 29 opcode P (eqb opcode 29) refl (releasedir_tells body) (λ e29.
    where_it_is 34 opcode P (eqb opcode 34) refl (access_tells body) (λ e34.
    where_it_is 2 opcode P (eqb opcode 2) refl (forget_tells body) (λ e2.
    where_it_is 26 opcode P (eqb opcode 26) refl (init_tells body) (λ e26.
    where_it_is 36 opcode P (eqb opcode 36) refl (interrupt_tells body) (λ e36.
    where_it_is 38 opcode P (eqb opcode 38) refl (destroy_tells body) (λ e38.
    where_it_is 42 opcode P (eqb opcode 42) refl (batch_forget_tells body) (λ e42.
    rw (e1, e6, e8, e9, e10, e11, e12, e13, e35, e45, e14, e15, e16, e18, e20, e25, e43, e46, e47, e3, e4, e5, e17, e27, e28, e29, e34, e2, e26, e36, e38, e42) (some_tells true (op.Other opcode) refl)))))))))))))))))))))))))))))))))
