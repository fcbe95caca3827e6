-- The forms of operations and calls.
use Rattle.std.proofs.Common.{◌≡◌, ℕ, ◌<◌, List, [], ◌∷◌, ◌++◌, length, Ok, refl}
use Rattle.ids.specs.declared.call.Whence.{Whence}
use Rattle.ids.specs.declared.call.Whence.TheVariants as whence
use Rattle.ids.specs.declared.call.Space.{Space}
use Rattle.ids.specs.declared.call.Space.TheVariants as space
use Rattle.ids.specs.declared.fixed.Special.{Special}
use Rattle.ids.specs.declared.fixed.Special.TheVariants as special
use Rattle.ids.specs.declared.rights.NewOwner.{NewOwner}
use Rattle.ids.specs.declared.flags.OpenFlags.{OpenFlags}
use Rattle.ids.specs.declared.flags.BeginFlags.{BeginFlags}
use Rattle.ids.specs.declared.call.Call.{Call}
use Rattle.ids.specs.declared.call.Call.TheVariants as call
use Rattle.ids.specs.declared.call.Op.{Op}
use Rattle.ids.specs.declared.call.Op.TheVariants as op
use Rattle.entry_codec.specs.declared.numbers.TheConstants.{WHENCE_SET, WHENCE_CUR, WHENCE_END}
use Rattle.entry_codec.specs.declared.numbers.TheConstants.{WHENCE_DATA, WHENCE_HOLE, SPACE_GROW}
use Rattle.entry_codec.specs.declared.numbers.TheConstants.{SPACE_KEEP, SPACE_PUNCH, SPECIAL_FIFO}
use Rattle.entry_codec.specs.declared.numbers.TheConstants.{SPECIAL_SOCKET}
use Rattle.entry_codec.specs.declared.numbers.TheConstants.{CALL_OPEN, CALL_CLOSE, CALL_READ}
use Rattle.entry_codec.specs.declared.numbers.TheConstants.{CALL_PREAD, CALL_WRITE, CALL_PWRITE}
use Rattle.entry_codec.specs.declared.numbers.TheConstants.{CALL_LSEEK, CALL_FTRUNCATE}
use Rattle.entry_codec.specs.declared.numbers.TheConstants.{CALL_TRUNCATE, CALL_FALLOCATE}
use Rattle.entry_codec.specs.declared.numbers.TheConstants.{CALL_STAT, CALL_FSTAT, CALL_LINK}
use Rattle.entry_codec.specs.declared.numbers.TheConstants.{CALL_UNLINK, CALL_RENAME, CALL_EXCHANGE}
use Rattle.entry_codec.specs.declared.numbers.TheConstants.{CALL_MKDIR, CALL_RMDIR, CALL_LIST}
use Rattle.entry_codec.specs.declared.numbers.TheConstants.{CALL_SYMLINK, CALL_READLINK, CALL_LSTAT}
use Rattle.entry_codec.specs.declared.numbers.TheConstants.{CALL_MKNOD, CALL_CHMOD, CALL_CHOWN}
use Rattle.entry_codec.specs.declared.numbers.TheConstants.{CALL_FCHMOD, CALL_FCHOWN, CALL_DUP}
use Rattle.entry_codec.specs.declared.numbers.TheConstants.{CALL_DUP2, CALL_PIPE, CALL_FORK}
use Rattle.entry_codec.specs.declared.numbers.TheConstants.{CALL_EXIT}
use Rattle.entry_codec.specs.declared.numbers.TheConstants.{OP_CALL, OP_BEGIN, OP_END, OP_ABORT}
use Rattle.entry_codec.specs.Calls.{whence_number, space_number, special_number, new_owner_bytes, IsNewOwner, call_bytes, IsCall, op_bytes, IsOp}
use Rattle.entry_codec.specs.ReadingCalls.{whence_of, whence_at, space_of, space_at, special_of, special_at, open_flags_at, begin_flags_at, new_owner_at}
use Rattle.entry_codec.specs.ReadingCalls.{rights_call_of, paths_call_of, path_call_of, length_call_of, content_call_of, call_of, call_at, op_of, op_at}
use Rattle.entry_codec.proofs.Formats.{IsBytes, Takes, IsFormat, Always, Took, choose, one_takes, two_takes, one_again, two_again, three_again, four_again}
use Rattle.entry_codec.proofs.Formats.{variant0, variant1, variant2, variant3, variant4, numbered}
use Rattle.entry_codec.proofs.PartForms.{byte_format, u32_format, signed_format, permissions_format, text_format, flag_format, optional_format}

whence_takes : (n : ℕ) (bytes : List ℕ) (x : Whence × List ℕ) → IsBytes bytes → whence_of n bytes ≡ Ok x → Took (λ v. whence_number v ∷ []) Always n bytes x
unfolding whence_of
whence_takes n bytes x fits e =
    choose n WHENCE_SET _ _ x _ e (λ is read. variant0 (λ v. whence_number v ∷ []) Always whence.Set WHENCE_SET refl tt n bytes x fits is read) (λ e.
    choose n WHENCE_CUR _ _ x _ e (λ is read. variant0 (λ v. whence_number v ∷ []) Always whence.Cur WHENCE_CUR refl tt n bytes x fits is read) (λ e.
    choose n WHENCE_END _ _ x _ e (λ is read. variant0 (λ v. whence_number v ∷ []) Always whence.End WHENCE_END refl tt n bytes x fits is read) (λ e.
    choose n WHENCE_DATA _ _ x _ e (λ is read. variant0 (λ v. whence_number v ∷ []) Always whence.Data WHENCE_DATA refl tt n bytes x fits is read) (λ e.
    choose n WHENCE_HOLE _ _ x _ e (λ is read. variant0 (λ v. whence_number v ∷ []) Always whence.Hole WHENCE_HOLE refl tt n bytes x fits is read) (λ e.
    absurd cc)))))

whence_again : (v : Whence) (rest : List ℕ) → whence_at ((whence_number v ∷ []) ++ rest) ≡ Ok (v, rest)
unfolding whence_of
whence_again whence.Set rest = refl
whence_again whence.Cur rest = refl
whence_again whence.End rest = refl
whence_again whence.Data rest = refl
whence_again whence.Hole rest = refl

pub whence_format : IsFormat (λ v. whence_number v ∷ []) Always whence_at
whence_format = record { takes = numbered (λ v. whence_number v ∷ []) Always whence_of whence_takes; again = λ v rest p. whence_again v rest }

space_takes : (n : ℕ) (bytes : List ℕ) (x : Space × List ℕ) → IsBytes bytes → space_of n bytes ≡ Ok x → Took (λ v. space_number v ∷ []) Always n bytes x
unfolding space_of
space_takes n bytes x fits e =
    choose n SPACE_GROW _ _ x _ e (λ is read. variant0 (λ v. space_number v ∷ []) Always space.Grow SPACE_GROW refl tt n bytes x fits is read) (λ e.
    choose n SPACE_KEEP _ _ x _ e (λ is read. variant0 (λ v. space_number v ∷ []) Always space.Keep SPACE_KEEP refl tt n bytes x fits is read) (λ e.
    choose n SPACE_PUNCH _ _ x _ e (λ is read. variant0 (λ v. space_number v ∷ []) Always space.Punch SPACE_PUNCH refl tt n bytes x fits is read) (λ e.
    absurd cc)))

space_again : (v : Space) (rest : List ℕ) → space_at ((space_number v ∷ []) ++ rest) ≡ Ok (v, rest)
unfolding space_of
space_again space.Grow rest = refl
space_again space.Keep rest = refl
space_again space.Punch rest = refl

pub space_format : IsFormat (λ v. space_number v ∷ []) Always space_at
space_format = record { takes = numbered (λ v. space_number v ∷ []) Always space_of space_takes; again = λ v rest p. space_again v rest }

special_takes : (n : ℕ) (bytes : List ℕ) (x : Special × List ℕ) → IsBytes bytes → special_of n bytes ≡ Ok x → Took (λ v. special_number v ∷ []) Always n bytes x
unfolding special_of
special_takes n bytes x fits e =
    choose n SPECIAL_FIFO _ _ x _ e (λ is read. variant0 (λ v. special_number v ∷ []) Always special.Fifo SPECIAL_FIFO refl tt n bytes x fits is read) (λ e.
    choose n SPECIAL_SOCKET _ _ x _ e (λ is read. variant0 (λ v. special_number v ∷ []) Always special.Socket SPECIAL_SOCKET refl tt n bytes x fits is read) (λ e.
    absurd cc))

special_again : (v : Special) (rest : List ℕ) → special_at ((special_number v ∷ []) ++ rest) ≡ Ok (v, rest)
unfolding special_of
special_again special.Fifo rest = refl
special_again special.Socket rest = refl

pub special_format : IsFormat (λ v. special_number v ∷ []) Always special_at
special_format = record { takes = numbered (λ v. special_number v ∷ []) Always special_of special_takes; again = λ v rest p. special_again v rest }

abbrev open_flags : ℕ → OpenFlags
open_flags bits = record { 0 = bits }

pub open_flags_format : IsFormat (λ flags. flags.0 ∷ []) (λ flags. flags.0 < 256) open_flags_at
open_flags_format = record {
  takes = λ bytes x fits e. one_takes byte_format open_flags bytes x (λ (y : OpenFlags × List ℕ). Takes bytes (y.0.0 ∷ []) y.1 × (y.0.0 < 256)) fits e (λ bits rest t p. (t, p));
  again = λ flags rest p. refl;
}

abbrev begin_flags : ℕ → BeginFlags
begin_flags bits = record { 0 = bits }

pub begin_flags_format : IsFormat (λ flags. flags.0 ∷ []) (λ flags. flags.0 < 256) begin_flags_at
begin_flags_format = record {
  takes = λ bytes x fits e. one_takes byte_format begin_flags bytes x (λ (y : BeginFlags × List ℕ). Takes bytes (y.0.0 ∷ []) y.1 × (y.0.0 < 256)) fits e (λ bits rest t p. (t, p));
  again = λ flags rest p. refl;
}

new_owner_takes : (bytes : List ℕ) (x : NewOwner × List ℕ) → IsBytes bytes → new_owner_at bytes ≡ Ok x → Takes bytes (new_owner_bytes x.0) x.1 × IsNewOwner x.0
unfolding new_owner_at
new_owner_takes bytes x fits e =
    two_takes optional_format optional_format (λ user group. record { user = user; group = group }) bytes x (λ (y : NewOwner × List ℕ). Takes bytes (new_owner_bytes y.0) y.1 × IsNewOwner y.0) fits e
    (λ user group rest t p q. (t, (p, q)))

new_owner_again : (owner : NewOwner) (rest : List ℕ) → IsNewOwner owner → new_owner_at (new_owner_bytes owner ++ rest) ≡ Ok (owner, rest)
unfolding new_owner_at
new_owner_again owner rest fits = two_again optional_format optional_format (λ user group. record { user = user; group = group }) owner.user owner.group rest fits.0 fits.1

pub new_owner_format : IsFormat new_owner_bytes IsNewOwner new_owner_at
new_owner_format = record { takes = new_owner_takes; again = new_owner_again }

-- ---- calls

rights_call_takes : (n : ℕ) (bytes : List ℕ) (x : Call × List ℕ) → IsBytes bytes → rights_call_of n bytes ≡ Ok x → Took call_bytes IsCall n bytes x
unfolding rights_call_of call_bytes IsCall
rights_call_takes n bytes x fits e =
    choose n CALL_MKNOD _ _ x _ e (λ is read. variant2 call_bytes IsCall text_format special_format (λ path special. call.Mknod path special) CALL_MKNOD (λ a b. refl) (λ a b p q. p) n bytes x fits is read) (λ e.
    choose n CALL_CHMOD _ _ x _ e (λ is read. variant2 call_bytes IsCall text_format permissions_format (λ path permissions. call.Chmod path permissions) CALL_CHMOD (λ a b. refl) (λ a b p q. (p, q)) n bytes x fits is read) (λ e.
    choose n CALL_CHOWN _ _ x _ e (λ is read. variant2 call_bytes IsCall text_format new_owner_format (λ path owner. call.Chown path owner) CALL_CHOWN (λ a b. refl) (λ a b p q. (p, q)) n bytes x fits is read) (λ e.
    choose n CALL_FCHMOD _ _ x _ e (λ is read. variant2 call_bytes IsCall u32_format permissions_format (λ fd permissions. call.Fchmod fd permissions) CALL_FCHMOD (λ a b. refl) (λ a b p q. (p, q)) n bytes x fits is read) (λ e.
    choose n CALL_FCHOWN _ _ x _ e (λ is read. variant2 call_bytes IsCall u32_format new_owner_format (λ fd owner. call.Fchown fd owner) CALL_FCHOWN (λ a b. refl) (λ a b p q. (p, q)) n bytes x fits is read) (λ e.
    absurd cc)))))

paths_call_takes : (n : ℕ) (bytes : List ℕ) (x : Call × List ℕ) → IsBytes bytes → paths_call_of n bytes ≡ Ok x → Took call_bytes IsCall n bytes x
unfolding paths_call_of call_bytes IsCall
paths_call_takes n bytes x fits e =
    choose n CALL_LINK _ _ x _ e (λ is read. variant2 call_bytes IsCall text_format text_format (λ old new. call.Link old new) CALL_LINK (λ a b. refl) (λ a b p q. (p, q)) n bytes x fits is read) (λ e.
    choose n CALL_RENAME _ _ x _ e (λ is read. variant2 call_bytes IsCall text_format text_format (λ old new. call.Rename old new) CALL_RENAME (λ a b. refl) (λ a b p q. (p, q)) n bytes x fits is read) (λ e.
    choose n CALL_EXCHANGE _ _ x _ e (λ is read. variant2 call_bytes IsCall text_format text_format (λ old new. call.Exchange old new) CALL_EXCHANGE (λ a b. refl) (λ a b p q. (p, q)) n bytes x fits is read) (λ e.
    choose n CALL_SYMLINK _ _ x _ e (λ is read. variant2 call_bytes IsCall text_format text_format (λ target path. call.Symlink target path) CALL_SYMLINK (λ a b. refl) (λ a b p q. (p, q)) n bytes x fits is read) (λ e.
    rights_call_takes n bytes x fits e))))

path_call_takes : (n : ℕ) (bytes : List ℕ) (x : Call × List ℕ) → IsBytes bytes → path_call_of n bytes ≡ Ok x → Took call_bytes IsCall n bytes x
unfolding path_call_of call_bytes IsCall
path_call_takes n bytes x fits e =
    choose n CALL_STAT _ _ x _ e (λ is read. variant1 call_bytes IsCall text_format (λ path. call.Stat path) CALL_STAT (λ a. refl) (λ a p. p) n bytes x fits is read) (λ e.
    choose n CALL_UNLINK _ _ x _ e (λ is read. variant1 call_bytes IsCall text_format (λ path. call.Unlink path) CALL_UNLINK (λ a. refl) (λ a p. p) n bytes x fits is read) (λ e.
    choose n CALL_MKDIR _ _ x _ e (λ is read. variant1 call_bytes IsCall text_format (λ path. call.Mkdir path) CALL_MKDIR (λ a. refl) (λ a p. p) n bytes x fits is read) (λ e.
    choose n CALL_RMDIR _ _ x _ e (λ is read. variant1 call_bytes IsCall text_format (λ path. call.Rmdir path) CALL_RMDIR (λ a. refl) (λ a p. p) n bytes x fits is read) (λ e.
    choose n CALL_LIST _ _ x _ e (λ is read. variant1 call_bytes IsCall text_format (λ path. call.List path) CALL_LIST (λ a. refl) (λ a p. p) n bytes x fits is read) (λ e.
    choose n CALL_READLINK _ _ x _ e (λ is read. variant1 call_bytes IsCall text_format (λ path. call.Readlink path) CALL_READLINK (λ a. refl) (λ a p. p) n bytes x fits is read) (λ e.
    choose n CALL_LSTAT _ _ x _ e (λ is read. variant1 call_bytes IsCall text_format (λ path. call.Lstat path) CALL_LSTAT (λ a. refl) (λ a p. p) n bytes x fits is read) (λ e.
    paths_call_takes n bytes x fits e)))))))

length_call_takes : (n : ℕ) (bytes : List ℕ) (x : Call × List ℕ) → IsBytes bytes → length_call_of n bytes ≡ Ok x → Took call_bytes IsCall n bytes x
unfolding length_call_of call_bytes IsCall
length_call_takes n bytes x fits e =
    choose n CALL_FTRUNCATE _ _ x _ e (λ is read. variant2 call_bytes IsCall u32_format u32_format (λ fd length. call.Ftruncate fd length) CALL_FTRUNCATE (λ a b. refl) (λ a b p q. (p, q)) n bytes x fits is read) (λ e.
    choose n CALL_TRUNCATE _ _ x _ e (λ is read. variant2 call_bytes IsCall text_format u32_format (λ path length. call.Truncate path length) CALL_TRUNCATE (λ a b. refl) (λ a b p q. (p, q)) n bytes x fits is read) (λ e.
    choose n CALL_FALLOCATE _ _ x _ e (λ is read. variant4 call_bytes IsCall u32_format signed_format signed_format space_format (λ fd offset length space. call.Fallocate fd offset length space) CALL_FALLOCATE (λ a b c d. refl) (λ a b c d p q r s. (p, q, r)) n bytes x fits is read) (λ e.
    path_call_takes n bytes x fits e)))

content_call_takes : (n : ℕ) (bytes : List ℕ) (x : Call × List ℕ) → IsBytes bytes → content_call_of n bytes ≡ Ok x → Took call_bytes IsCall n bytes x
unfolding content_call_of call_bytes IsCall
content_call_takes n bytes x fits e =
    choose n CALL_READ _ _ x _ e (λ is read. variant2 call_bytes IsCall u32_format u32_format (λ fd count. call.Read fd count) CALL_READ (λ a b. refl) (λ a b p q. (p, q)) n bytes x fits is read) (λ e.
    choose n CALL_PREAD _ _ x _ e (λ is read. variant3 call_bytes IsCall u32_format u32_format signed_format (λ fd count offset. call.Pread fd count offset) CALL_PREAD (λ a b c. refl) (λ a b c p q r. (p, q, r)) n bytes x fits is read) (λ e.
    choose n CALL_WRITE _ _ x _ e (λ is read. variant2 call_bytes IsCall u32_format text_format (λ fd bytes. call.Write fd bytes) CALL_WRITE (λ a b. refl) (λ a b p q. (p, q)) n bytes x fits is read) (λ e.
    choose n CALL_PWRITE _ _ x _ e (λ is read. variant3 call_bytes IsCall u32_format text_format signed_format (λ fd bytes offset. call.Pwrite fd bytes offset) CALL_PWRITE (λ a b c. refl) (λ a b c p q r. (p, q, r)) n bytes x fits is read) (λ e.
    choose n CALL_LSEEK _ _ x _ e (λ is read. variant3 call_bytes IsCall u32_format signed_format whence_format (λ fd offset whence. call.Lseek fd offset whence) CALL_LSEEK (λ a b c. refl) (λ a b c p q r. (p, q)) n bytes x fits is read) (λ e.
    length_call_takes n bytes x fits e)))))

call_takes : (n : ℕ) (bytes : List ℕ) (x : Call × List ℕ) → IsBytes bytes → call_of n bytes ≡ Ok x → Took call_bytes IsCall n bytes x
unfolding call_of call_bytes IsCall
call_takes n bytes x fits e =
    choose n CALL_OPEN _ _ x _ e (λ is read. variant2 call_bytes IsCall text_format open_flags_format (λ path flags. call.Open path flags) CALL_OPEN (λ a b. refl) (λ a b p q. (p, q)) n bytes x fits is read) (λ e.
    choose n CALL_CLOSE _ _ x _ e (λ is read. variant1 call_bytes IsCall u32_format (λ fd. call.Close fd) CALL_CLOSE (λ a. refl) (λ a p. p) n bytes x fits is read) (λ e.
    choose n CALL_FSTAT _ _ x _ e (λ is read. variant1 call_bytes IsCall u32_format (λ fd. call.Fstat fd) CALL_FSTAT (λ a. refl) (λ a p. p) n bytes x fits is read) (λ e.
    choose n CALL_DUP _ _ x _ e (λ is read. variant1 call_bytes IsCall u32_format (λ fd. call.Dup fd) CALL_DUP (λ a. refl) (λ a p. p) n bytes x fits is read) (λ e.
    choose n CALL_DUP2 _ _ x _ e (λ is read. variant2 call_bytes IsCall u32_format u32_format (λ old new. call.Dup2 old new) CALL_DUP2 (λ a b. refl) (λ a b p q. (p, q)) n bytes x fits is read) (λ e.
    choose n CALL_PIPE _ _ x _ e (λ is read. variant0 call_bytes IsCall call.Pipe CALL_PIPE refl tt n bytes x fits is read) (λ e.
    choose n CALL_FORK _ _ x _ e (λ is read. variant0 call_bytes IsCall call.Fork CALL_FORK refl tt n bytes x fits is read) (λ e.
    choose n CALL_EXIT _ _ x _ e (λ is read. variant0 call_bytes IsCall call.Exit CALL_EXIT refl tt n bytes x fits is read) (λ e.
    content_call_takes n bytes x fits e))))))))

call_again : (c : Call) (rest : List ℕ) → IsCall c → call_at (call_bytes c ++ rest) ≡ Ok (c, rest)
unfolding rights_call_of paths_call_of path_call_of length_call_of content_call_of call_of call_bytes IsCall
call_again (call.Open path flags) rest fits = two_again text_format open_flags_format (λ path flags. call.Open path flags) path flags rest fits.0 fits.1
call_again (call.Close fd) rest fits = one_again u32_format (λ fd. call.Close fd) fd rest fits
call_again (call.Read fd count) rest fits = two_again u32_format u32_format (λ fd count. call.Read fd count) fd count rest fits.0 fits.1
call_again (call.Pread fd count offset) rest fits = three_again u32_format u32_format signed_format (λ fd count offset. call.Pread fd count offset) fd count offset rest fits.0 fits.1 fits.2
call_again (call.Write fd bytes) rest fits = two_again u32_format text_format (λ fd bytes. call.Write fd bytes) fd bytes rest fits.0 fits.1
call_again (call.Pwrite fd bytes offset) rest fits = three_again u32_format text_format signed_format (λ fd bytes offset. call.Pwrite fd bytes offset) fd bytes offset rest fits.0 fits.1 fits.2
call_again (call.Lseek fd offset whence) rest fits = three_again u32_format signed_format whence_format (λ fd offset whence. call.Lseek fd offset whence) fd offset whence rest fits.0 fits.1 tt
call_again (call.Ftruncate fd length) rest fits = two_again u32_format u32_format (λ fd length. call.Ftruncate fd length) fd length rest fits.0 fits.1
call_again (call.Truncate path length) rest fits = two_again text_format u32_format (λ path length. call.Truncate path length) path length rest fits.0 fits.1
call_again (call.Fallocate fd offset length space) rest fits = four_again u32_format signed_format signed_format space_format (λ fd offset length space. call.Fallocate fd offset length space) fd offset length space rest fits.0 fits.1 fits.2 tt
call_again (call.Stat path) rest fits = one_again text_format (λ path. call.Stat path) path rest fits
call_again (call.Fstat fd) rest fits = one_again u32_format (λ fd. call.Fstat fd) fd rest fits
call_again (call.Link old new) rest fits = two_again text_format text_format (λ old new. call.Link old new) old new rest fits.0 fits.1
call_again (call.Unlink path) rest fits = one_again text_format (λ path. call.Unlink path) path rest fits
call_again (call.Rename old new) rest fits = two_again text_format text_format (λ old new. call.Rename old new) old new rest fits.0 fits.1
call_again (call.Exchange old new) rest fits = two_again text_format text_format (λ old new. call.Exchange old new) old new rest fits.0 fits.1
call_again (call.Mkdir path) rest fits = one_again text_format (λ path. call.Mkdir path) path rest fits
call_again (call.Rmdir path) rest fits = one_again text_format (λ path. call.Rmdir path) path rest fits
call_again (call.List path) rest fits = one_again text_format (λ path. call.List path) path rest fits
call_again (call.Symlink target path) rest fits = two_again text_format text_format (λ target path. call.Symlink target path) target path rest fits.0 fits.1
call_again (call.Readlink path) rest fits = one_again text_format (λ path. call.Readlink path) path rest fits
call_again (call.Lstat path) rest fits = one_again text_format (λ path. call.Lstat path) path rest fits
call_again (call.Mknod path special) rest fits = two_again text_format special_format (λ path special. call.Mknod path special) path special rest fits tt
call_again (call.Chmod path permissions) rest fits = two_again text_format permissions_format (λ path permissions. call.Chmod path permissions) path permissions rest fits.0 fits.1
call_again (call.Chown path owner) rest fits = two_again text_format new_owner_format (λ path owner. call.Chown path owner) path owner rest fits.0 fits.1
call_again (call.Fchmod fd permissions) rest fits = two_again u32_format permissions_format (λ fd permissions. call.Fchmod fd permissions) fd permissions rest fits.0 fits.1
call_again (call.Fchown fd owner) rest fits = two_again u32_format new_owner_format (λ fd owner. call.Fchown fd owner) fd owner rest fits.0 fits.1
call_again (call.Dup fd) rest fits = one_again u32_format (λ fd. call.Dup fd) fd rest fits
call_again (call.Dup2 old new) rest fits = two_again u32_format u32_format (λ old new. call.Dup2 old new) old new rest fits.0 fits.1
call_again call.Pipe rest fits = refl
call_again call.Fork rest fits = refl
call_again call.Exit rest fits = refl

pub call_format : IsFormat call_bytes IsCall call_at
call_format = record { takes = numbered call_bytes IsCall call_of call_takes; again = call_again }

-- ---- operations

op_takes : (n : ℕ) (bytes : List ℕ) (x : Op × List ℕ) → IsBytes bytes → op_of n bytes ≡ Ok x → Took op_bytes IsOp n bytes x
unfolding op_of op_bytes IsOp
op_takes n bytes x fits e =
    choose n OP_CALL _ _ x _ e (λ is read. variant1 op_bytes IsOp call_format (λ call. op.Call call) OP_CALL (λ a. refl) (λ a p. p) n bytes x fits is read) (λ e.
    choose n OP_BEGIN _ _ x _ e (λ is read. variant1 op_bytes IsOp begin_flags_format (λ flags. op.Begin flags) OP_BEGIN (λ a. refl) (λ a p. p) n bytes x fits is read) (λ e.
    choose n OP_END _ _ x _ e (λ is read. variant0 op_bytes IsOp op.End OP_END refl tt n bytes x fits is read) (λ e.
    choose n OP_ABORT _ _ x _ e (λ is read. variant1 op_bytes IsOp flag_format (λ no_restart. op.Abort no_restart) OP_ABORT (λ a. refl) (λ a p. tt) n bytes x fits is read) (λ e.
    absurd cc))))

op_again : (o : Op) (rest : List ℕ) → IsOp o → op_at (op_bytes o ++ rest) ≡ Ok (o, rest)
unfolding op_of op_bytes IsOp
op_again (op.Call call) rest fits = one_again call_format (λ call. op.Call call) call rest fits
op_again (op.Begin flags) rest fits = one_again begin_flags_format (λ flags. op.Begin flags) flags rest fits
op_again op.End rest fits = refl
op_again (op.Abort no_restart) rest fits = one_again flag_format (λ no_restart. op.Abort no_restart) no_restart rest tt

pub op_format : IsFormat op_bytes IsOp op_at
op_format = record { takes = numbered op_bytes IsOp op_of op_takes; again = op_again }
