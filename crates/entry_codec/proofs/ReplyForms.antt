-- The forms of replies.
use Rattle.std.proofs.Common.{◌≡◌, ℕ, List, [], ◌∷◌, ◌++◌, Ok, refl}
use Rattle.ids.specs.declared.errno.Errno.{Errno}
use Rattle.ids.specs.declared.errno.Errno.TheVariants as errno
use Rattle.ids.specs.declared.reply.Kind.{Kind}
use Rattle.ids.specs.declared.reply.Kind.TheVariants as kind
use Rattle.ids.specs.declared.rights.Rights.{Rights}
use Rattle.ids.specs.declared.reply.Stat.{Stat}
use Rattle.ids.specs.declared.aspect.Aspect.{Aspect}
use Rattle.ids.specs.declared.aspect.Aspect.TheVariants as aspect
use Rattle.ids.specs.declared.aspect.Touch.{Touch}
use Rattle.ids.specs.declared.aspect.Cause.{Cause}
use Rattle.ids.specs.declared.aspect.Why.{Why}
use Rattle.ids.specs.declared.aspect.Why.TheVariants as why
use Rattle.ids.specs.declared.reply.Answer.{Answer}
use Rattle.ids.specs.declared.reply.Answer.TheVariants as answer
use Rattle.ids.specs.declared.reply.Reply.{Reply}
use Rattle.ids.specs.declared.reply.Reply.TheVariants as reply
use Rattle.entry_codec.specs.declared.numbers.TheConstants.{ERRNO_EAGAIN, ERRNO_EBADF, ERRNO_EBUSY}
use Rattle.entry_codec.specs.declared.numbers.TheConstants.{ERRNO_EEXIST, ERRNO_EFBIG, ERRNO_EINVAL}
use Rattle.entry_codec.specs.declared.numbers.TheConstants.{ERRNO_EISDIR, ERRNO_ELOOP, ERRNO_EMFILE}
use Rattle.entry_codec.specs.declared.numbers.TheConstants.{ERRNO_ENAMETOOLONG, ERRNO_ENOENT}
use Rattle.entry_codec.specs.declared.numbers.TheConstants.{ERRNO_ENOTDIR, ERRNO_ENOTEMPTY}
use Rattle.entry_codec.specs.declared.numbers.TheConstants.{ERRNO_ENOTSUP, ERRNO_ENXIO, ERRNO_EPERM}
use Rattle.entry_codec.specs.declared.numbers.TheConstants.{ERRNO_EPIPE, ERRNO_ESPIPE}
use Rattle.entry_codec.specs.declared.numbers.TheConstants.{KIND_FILE, KIND_DIR, KIND_PIPE}
use Rattle.entry_codec.specs.declared.numbers.TheConstants.{KIND_LINK, KIND_FIFO, KIND_SOCKET}
use Rattle.entry_codec.specs.declared.numbers.TheConstants.{ASPECT_ENTRY, ASPECT_NAMES, ASPECT_SIZE}
use Rattle.entry_codec.specs.declared.numbers.TheConstants.{ASPECT_BLOCK, ASPECT_LINKS, ASPECT_ENDS}
use Rattle.entry_codec.specs.declared.numbers.TheConstants.{ASPECT_OFFSET, ASPECT_FRONT}
use Rattle.entry_codec.specs.declared.numbers.TheConstants.{ASPECT_BACK, ASPECT_TARGET}
use Rattle.entry_codec.specs.declared.numbers.TheConstants.{ASPECT_RIGHTS, WHY_CLASH}
use Rattle.entry_codec.specs.declared.numbers.TheConstants.{WHY_UNSUPPORTED}
use Rattle.entry_codec.specs.declared.numbers.TheConstants.{ANSWER_DONE, ANSWER_FD, ANSWER_COUNT}
use Rattle.entry_codec.specs.declared.numbers.TheConstants.{ANSWER_PLACE, ANSWER_BYTES, ANSWER_PAIR}
use Rattle.entry_codec.specs.declared.numbers.TheConstants.{ANSWER_STAT, ANSWER_NAMES, ANSWER_CHILD}
use Rattle.entry_codec.specs.declared.numbers.TheConstants.{REPLY_ANSWER, REPLY_ERRNO, REPLY_BEGUN}
use Rattle.entry_codec.specs.declared.numbers.TheConstants.{REPLY_COMMITTED, REPLY_GIVEN_UP}
use Rattle.entry_codec.specs.declared.numbers.TheConstants.{REPLY_ABORTED, REPLY_BUSY}
use Rattle.entry_codec.specs.declared.numbers.TheConstants.{REPLY_IN_TRANSACTION}
use Rattle.entry_codec.specs.declared.numbers.TheConstants.{REPLY_NOT_IN_TRANSACTION}
use Rattle.entry_codec.specs.declared.numbers.TheConstants.{REPLY_HISTORY_FULL, REPLY_NO_MEMORY}
use Rattle.entry_codec.specs.declared.numbers.TheConstants.{REPLY_NO_PROCESS}
use Rattle.entry_codec.specs.Replies.{errno_number, kind_number, aspect_bytes, IsAspect, touch_bytes, cause_bytes, IsCause, why_bytes, IsWhy, rights_bytes, IsRights, stat_bytes, IsStat, names_bytes, AreNames, answer_bytes, IsAnswer, reply_bytes, IsReply}
use Rattle.entry_codec.specs.ReadingReplies.{errno_of, errno_at, kind_of, kind_at, other_aspect_of, aspect_of, aspect_at, touch_at, cause_at, why_of, why_at}
use Rattle.entry_codec.specs.ReadingReplies.{rights_from, rights_at, stat_from, stat_at, names_at, answer_of, answer_at, reply_of, reply_at}
use Rattle.entry_codec.proofs.Formats.{IsBytes, Takes, IsFormat, Always, Took, choose, two_takes, three_takes, five_takes, one_again, two_again, three_again, five_again}
use Rattle.entry_codec.proofs.Formats.{variant0, variant1, variant2, numbered}
use Rattle.entry_codec.proofs.PartForms.{u32_format, u64_format, permissions_format, text_format, flag_format, list_format}

errno_takes : (n : ℕ) (bytes : List ℕ) (x : Errno × List ℕ) → IsBytes bytes → errno_of n bytes ≡ Ok x → Took (λ v. errno_number v ∷ []) Always n bytes x
unfolding errno_of
errno_takes n bytes x fits e =
    choose n ERRNO_EAGAIN _ _ x _ e (λ is read. variant0 (λ v. errno_number v ∷ []) Always errno.EAGAIN ERRNO_EAGAIN refl tt n bytes x fits is read) (λ e.
    choose n ERRNO_EBADF _ _ x _ e (λ is read. variant0 (λ v. errno_number v ∷ []) Always errno.EBADF ERRNO_EBADF refl tt n bytes x fits is read) (λ e.
    choose n ERRNO_EBUSY _ _ x _ e (λ is read. variant0 (λ v. errno_number v ∷ []) Always errno.EBUSY ERRNO_EBUSY refl tt n bytes x fits is read) (λ e.
    choose n ERRNO_EEXIST _ _ x _ e (λ is read. variant0 (λ v. errno_number v ∷ []) Always errno.EEXIST ERRNO_EEXIST refl tt n bytes x fits is read) (λ e.
    choose n ERRNO_EFBIG _ _ x _ e (λ is read. variant0 (λ v. errno_number v ∷ []) Always errno.EFBIG ERRNO_EFBIG refl tt n bytes x fits is read) (λ e.
    choose n ERRNO_EINVAL _ _ x _ e (λ is read. variant0 (λ v. errno_number v ∷ []) Always errno.EINVAL ERRNO_EINVAL refl tt n bytes x fits is read) (λ e.
    choose n ERRNO_EISDIR _ _ x _ e (λ is read. variant0 (λ v. errno_number v ∷ []) Always errno.EISDIR ERRNO_EISDIR refl tt n bytes x fits is read) (λ e.
    choose n ERRNO_ELOOP _ _ x _ e (λ is read. variant0 (λ v. errno_number v ∷ []) Always errno.ELOOP ERRNO_ELOOP refl tt n bytes x fits is read) (λ e.
    choose n ERRNO_EMFILE _ _ x _ e (λ is read. variant0 (λ v. errno_number v ∷ []) Always errno.EMFILE ERRNO_EMFILE refl tt n bytes x fits is read) (λ e.
    choose n ERRNO_ENAMETOOLONG _ _ x _ e (λ is read. variant0 (λ v. errno_number v ∷ []) Always errno.ENAMETOOLONG ERRNO_ENAMETOOLONG refl tt n bytes x fits is read) (λ e.
    choose n ERRNO_ENOENT _ _ x _ e (λ is read. variant0 (λ v. errno_number v ∷ []) Always errno.ENOENT ERRNO_ENOENT refl tt n bytes x fits is read) (λ e.
    choose n ERRNO_ENOTDIR _ _ x _ e (λ is read. variant0 (λ v. errno_number v ∷ []) Always errno.ENOTDIR ERRNO_ENOTDIR refl tt n bytes x fits is read) (λ e.
    choose n ERRNO_ENOTEMPTY _ _ x _ e (λ is read. variant0 (λ v. errno_number v ∷ []) Always errno.ENOTEMPTY ERRNO_ENOTEMPTY refl tt n bytes x fits is read) (λ e.
    choose n ERRNO_ENOTSUP _ _ x _ e (λ is read. variant0 (λ v. errno_number v ∷ []) Always errno.ENOTSUP ERRNO_ENOTSUP refl tt n bytes x fits is read) (λ e.
    choose n ERRNO_ENXIO _ _ x _ e (λ is read. variant0 (λ v. errno_number v ∷ []) Always errno.ENXIO ERRNO_ENXIO refl tt n bytes x fits is read) (λ e.
    choose n ERRNO_EPERM _ _ x _ e (λ is read. variant0 (λ v. errno_number v ∷ []) Always errno.EPERM ERRNO_EPERM refl tt n bytes x fits is read) (λ e.
    choose n ERRNO_EPIPE _ _ x _ e (λ is read. variant0 (λ v. errno_number v ∷ []) Always errno.EPIPE ERRNO_EPIPE refl tt n bytes x fits is read) (λ e.
    choose n ERRNO_ESPIPE _ _ x _ e (λ is read. variant0 (λ v. errno_number v ∷ []) Always errno.ESPIPE ERRNO_ESPIPE refl tt n bytes x fits is read) (λ e.
    absurd cc))))))))))))))))))

errno_again : (v : Errno) (rest : List ℕ) → errno_at ((errno_number v ∷ []) ++ rest) ≡ Ok (v, rest)
unfolding errno_of
errno_again errno.EAGAIN rest = refl
errno_again errno.EBADF rest = refl
errno_again errno.EBUSY rest = refl
errno_again errno.EEXIST rest = refl
errno_again errno.EFBIG rest = refl
errno_again errno.EINVAL rest = refl
errno_again errno.EISDIR rest = refl
errno_again errno.ELOOP rest = refl
errno_again errno.EMFILE rest = refl
errno_again errno.ENAMETOOLONG rest = refl
errno_again errno.ENOENT rest = refl
errno_again errno.ENOTDIR rest = refl
errno_again errno.ENOTEMPTY rest = refl
errno_again errno.ENOTSUP rest = refl
errno_again errno.ENXIO rest = refl
errno_again errno.EPERM rest = refl
errno_again errno.EPIPE rest = refl
errno_again errno.ESPIPE rest = refl

pub errno_format : IsFormat (λ v. errno_number v ∷ []) Always errno_at
errno_format = record { takes = numbered (λ v. errno_number v ∷ []) Always errno_of errno_takes; again = λ v rest p. errno_again v rest }

kind_takes : (n : ℕ) (bytes : List ℕ) (x : Kind × List ℕ) → IsBytes bytes → kind_of n bytes ≡ Ok x → Took (λ v. kind_number v ∷ []) Always n bytes x
unfolding kind_of
kind_takes n bytes x fits e =
    choose n KIND_FILE _ _ x _ e (λ is read. variant0 (λ v. kind_number v ∷ []) Always kind.File KIND_FILE refl tt n bytes x fits is read) (λ e.
    choose n KIND_DIR _ _ x _ e (λ is read. variant0 (λ v. kind_number v ∷ []) Always kind.Dir KIND_DIR refl tt n bytes x fits is read) (λ e.
    choose n KIND_PIPE _ _ x _ e (λ is read. variant0 (λ v. kind_number v ∷ []) Always kind.Pipe KIND_PIPE refl tt n bytes x fits is read) (λ e.
    choose n KIND_LINK _ _ x _ e (λ is read. variant0 (λ v. kind_number v ∷ []) Always kind.Link KIND_LINK refl tt n bytes x fits is read) (λ e.
    choose n KIND_FIFO _ _ x _ e (λ is read. variant0 (λ v. kind_number v ∷ []) Always kind.Fifo KIND_FIFO refl tt n bytes x fits is read) (λ e.
    choose n KIND_SOCKET _ _ x _ e (λ is read. variant0 (λ v. kind_number v ∷ []) Always kind.Socket KIND_SOCKET refl tt n bytes x fits is read) (λ e.
    absurd cc))))))

kind_again : (v : Kind) (rest : List ℕ) → kind_at ((kind_number v ∷ []) ++ rest) ≡ Ok (v, rest)
unfolding kind_of
kind_again kind.File rest = refl
kind_again kind.Dir rest = refl
kind_again kind.Pipe rest = refl
kind_again kind.Link rest = refl
kind_again kind.Fifo rest = refl
kind_again kind.Socket rest = refl

pub kind_format : IsFormat (λ v. kind_number v ∷ []) Always kind_at
kind_format = record { takes = numbered (λ v. kind_number v ∷ []) Always kind_of kind_takes; again = λ v rest p. kind_again v rest }

-- ---- why an operation is aborted or put off

other_aspect_takes : (n : ℕ) (bytes : List ℕ) (x : Aspect × List ℕ) → IsBytes bytes → other_aspect_of n bytes ≡ Ok x → Took aspect_bytes IsAspect n bytes x
unfolding other_aspect_of aspect_bytes IsAspect
other_aspect_takes n bytes x fits e =
    choose n ASPECT_ENDS _ _ x _ e (λ is read. variant1 aspect_bytes IsAspect u64_format (λ pipe. aspect.Ends pipe) ASPECT_ENDS (λ a. refl) (λ a p. p) n bytes x fits is read) (λ e.
    choose n ASPECT_OFFSET _ _ x _ e (λ is read. variant1 aspect_bytes IsAspect u64_format (λ description. aspect.Offset description) ASPECT_OFFSET (λ a. refl) (λ a p. p) n bytes x fits is read) (λ e.
    choose n ASPECT_FRONT _ _ x _ e (λ is read. variant1 aspect_bytes IsAspect u64_format (λ pipe. aspect.Front pipe) ASPECT_FRONT (λ a. refl) (λ a p. p) n bytes x fits is read) (λ e.
    choose n ASPECT_BACK _ _ x _ e (λ is read. variant1 aspect_bytes IsAspect u64_format (λ pipe. aspect.Back pipe) ASPECT_BACK (λ a. refl) (λ a p. p) n bytes x fits is read) (λ e.
    choose n ASPECT_TARGET _ _ x _ e (λ is read. variant1 aspect_bytes IsAspect u64_format (λ link. aspect.Target link) ASPECT_TARGET (λ a. refl) (λ a p. p) n bytes x fits is read) (λ e.
    choose n ASPECT_RIGHTS _ _ x _ e (λ is read. variant1 aspect_bytes IsAspect u64_format (λ inode. aspect.Rights inode) ASPECT_RIGHTS (λ a. refl) (λ a p. p) n bytes x fits is read) (λ e.
    absurd cc))))))

aspect_takes : (n : ℕ) (bytes : List ℕ) (x : Aspect × List ℕ) → IsBytes bytes → aspect_of n bytes ≡ Ok x → Took aspect_bytes IsAspect n bytes x
unfolding aspect_of aspect_bytes IsAspect
aspect_takes n bytes x fits e =
    choose n ASPECT_ENTRY _ _ x _ e (λ is read. variant2 aspect_bytes IsAspect u64_format text_format (λ directory name. aspect.Entry directory name) ASPECT_ENTRY (λ a b. refl) (λ a b p q. (p, q)) n bytes x fits is read) (λ e.
    choose n ASPECT_NAMES _ _ x _ e (λ is read. variant1 aspect_bytes IsAspect u64_format (λ directory. aspect.Names directory) ASPECT_NAMES (λ a. refl) (λ a p. p) n bytes x fits is read) (λ e.
    choose n ASPECT_SIZE _ _ x _ e (λ is read. variant1 aspect_bytes IsAspect u64_format (λ file. aspect.Size file) ASPECT_SIZE (λ a. refl) (λ a p. p) n bytes x fits is read) (λ e.
    choose n ASPECT_BLOCK _ _ x _ e (λ is read. variant2 aspect_bytes IsAspect u64_format u32_format (λ file block. aspect.Block file block) ASPECT_BLOCK (λ a b. refl) (λ a b p q. (p, q)) n bytes x fits is read) (λ e.
    choose n ASPECT_LINKS _ _ x _ e (λ is read. variant1 aspect_bytes IsAspect u64_format (λ file. aspect.Links file) ASPECT_LINKS (λ a. refl) (λ a p. p) n bytes x fits is read) (λ e.
    other_aspect_takes n bytes x fits e)))))

aspect_again : (v : Aspect) (rest : List ℕ) → IsAspect v → aspect_at (aspect_bytes v ++ rest) ≡ Ok (v, rest)
unfolding other_aspect_of aspect_of aspect_bytes IsAspect
aspect_again (aspect.Entry directory name) rest fits = two_again u64_format text_format (λ directory name. aspect.Entry directory name) directory name rest fits.0 fits.1
aspect_again (aspect.Names directory) rest fits = one_again u64_format (λ directory. aspect.Names directory) directory rest fits
aspect_again (aspect.Size file) rest fits = one_again u64_format (λ file. aspect.Size file) file rest fits
aspect_again (aspect.Block file block) rest fits = two_again u64_format u32_format (λ file block. aspect.Block file block) file block rest fits.0 fits.1
aspect_again (aspect.Links file) rest fits = one_again u64_format (λ file. aspect.Links file) file rest fits
aspect_again (aspect.Ends pipe) rest fits = one_again u64_format (λ pipe. aspect.Ends pipe) pipe rest fits
aspect_again (aspect.Offset description) rest fits = one_again u64_format (λ description. aspect.Offset description) description rest fits
aspect_again (aspect.Front pipe) rest fits = one_again u64_format (λ pipe. aspect.Front pipe) pipe rest fits
aspect_again (aspect.Back pipe) rest fits = one_again u64_format (λ pipe. aspect.Back pipe) pipe rest fits
aspect_again (aspect.Target link) rest fits = one_again u64_format (λ link. aspect.Target link) link rest fits
aspect_again (aspect.Rights inode) rest fits = one_again u64_format (λ inode. aspect.Rights inode) inode rest fits

pub aspect_format : IsFormat aspect_bytes IsAspect aspect_at
aspect_format = record { takes = numbered aspect_bytes IsAspect aspect_of aspect_takes; again = aspect_again }

touch_takes : (bytes : List ℕ) (x : Touch × List ℕ) → IsBytes bytes → touch_at bytes ≡ Ok x → Takes bytes (touch_bytes x.0) x.1 × IsAspect x.0.aspect
unfolding touch_at
touch_takes bytes x fits e =
    two_takes aspect_format flag_format (λ aspect write. record { aspect = aspect; write = write }) bytes x (λ (y : Touch × List ℕ). Takes bytes (touch_bytes y.0) y.1 × IsAspect y.0.aspect) fits e
    (λ aspect write rest t p q. (t, p))

touch_again : (touch : Touch) (rest : List ℕ) → IsAspect touch.aspect → touch_at (touch_bytes touch ++ rest) ≡ Ok (touch, rest)
unfolding touch_at
touch_again touch rest fits = two_again aspect_format flag_format (λ aspect write. record { aspect = aspect; write = write }) touch.aspect touch.write rest fits tt

touch_format : IsFormat touch_bytes (λ touch. IsAspect touch.aspect) touch_at
touch_format = record { takes = touch_takes; again = touch_again }

cause_takes : (bytes : List ℕ) (x : Cause × List ℕ) → IsBytes bytes → cause_at bytes ≡ Ok x → Takes bytes (cause_bytes x.0) x.1 × IsCause x.0
unfolding cause_at
cause_takes bytes x fits e =
    two_takes touch_format u32_format (λ touch other. record { touch = touch; other = other }) bytes x (λ (y : Cause × List ℕ). Takes bytes (cause_bytes y.0) y.1 × IsCause y.0) fits e
    (λ touch other rest t p q. (t, (p, q)))

cause_again : (cause : Cause) (rest : List ℕ) → IsCause cause → cause_at (cause_bytes cause ++ rest) ≡ Ok (cause, rest)
unfolding cause_at
cause_again cause rest fits = two_again touch_format u32_format (λ touch other. record { touch = touch; other = other }) cause.touch cause.other rest fits.0 fits.1

pub cause_format : IsFormat cause_bytes IsCause cause_at
cause_format = record { takes = cause_takes; again = cause_again }

why_takes : (n : ℕ) (bytes : List ℕ) (x : Why × List ℕ) → IsBytes bytes → why_of n bytes ≡ Ok x → Took why_bytes IsWhy n bytes x
unfolding why_of why_bytes IsWhy
why_takes n bytes x fits e =
    choose n WHY_CLASH _ _ x _ e (λ is read. variant1 why_bytes IsWhy cause_format (λ cause. why.Clash cause) WHY_CLASH (λ a. refl) (λ a p. p) n bytes x fits is read) (λ e.
    choose n WHY_UNSUPPORTED _ _ x _ e (λ is read. variant0 why_bytes IsWhy why.Unsupported WHY_UNSUPPORTED refl tt n bytes x fits is read) (λ e.
    absurd cc))

why_again : (v : Why) (rest : List ℕ) → IsWhy v → why_at (why_bytes v ++ rest) ≡ Ok (v, rest)
unfolding why_of why_bytes IsWhy
why_again (why.Clash cause) rest fits = one_again cause_format (λ cause. why.Clash cause) cause rest fits
why_again why.Unsupported rest fits = refl

pub why_format : IsFormat why_bytes IsWhy why_at
why_format = record { takes = numbered why_bytes IsWhy why_of why_takes; again = why_again }

-- ---- answers

rights_takes : (bytes : List ℕ) (x : Rights × List ℕ) → IsBytes bytes → rights_at bytes ≡ Ok x → Takes bytes (rights_bytes x.0) x.1 × IsRights x.0
unfolding rights_at
rights_takes bytes x fits e =
    three_takes permissions_format u32_format u32_format rights_from bytes x (λ (y : Rights × List ℕ). Takes bytes (rights_bytes y.0) y.1 × IsRights y.0) fits e
    (λ permissions user group rest t p q r. (t, (p, q, r)))

rights_again : (rights : Rights) (rest : List ℕ) → IsRights rights → rights_at (rights_bytes rights ++ rest) ≡ Ok (rights, rest)
unfolding rights_at
rights_again rights rest fits = three_again permissions_format u32_format u32_format rights_from rights.permissions rights.owner.user rights.owner.group rest fits.0 fits.1 fits.2

rights_format : IsFormat rights_bytes IsRights rights_at
rights_format = record { takes = rights_takes; again = rights_again }

stat_takes : (bytes : List ℕ) (x : Stat × List ℕ) → IsBytes bytes → stat_at bytes ≡ Ok x → Takes bytes (stat_bytes x.0) x.1 × IsStat x.0
unfolding stat_at
stat_takes bytes x fits e =
    five_takes kind_format u64_format u32_format u32_format rights_format stat_from bytes x (λ (y : Stat × List ℕ). Takes bytes (stat_bytes y.0) y.1 × IsStat y.0) fits e
    (λ kind num size links rights rest t p q r s o. (t, (q, r, s, o)))

stat_again : (stat : Stat) (rest : List ℕ) → IsStat stat → stat_at (stat_bytes stat ++ rest) ≡ Ok (stat, rest)
unfolding stat_at
stat_again stat rest fits = five_again kind_format u64_format u32_format u32_format rights_format stat_from stat.kind stat.num stat.size stat.links stat.rights rest tt fits.0 fits.1 fits.2 fits.3

stat_format : IsFormat stat_bytes IsStat stat_at
stat_format = record { takes = stat_takes; again = stat_again }

names_format : IsFormat names_bytes AreNames names_at
names_format = list_format text_format

answer_takes : (n : ℕ) (bytes : List ℕ) (x : Answer × List ℕ) → IsBytes bytes → answer_of n bytes ≡ Ok x → Took answer_bytes IsAnswer n bytes x
unfolding answer_of answer_bytes IsAnswer
answer_takes n bytes x fits e =
    choose n ANSWER_DONE _ _ x _ e (λ is read. variant0 answer_bytes IsAnswer answer.Done ANSWER_DONE refl tt n bytes x fits is read) (λ e.
    choose n ANSWER_FD _ _ x _ e (λ is read. variant1 answer_bytes IsAnswer u32_format (λ fd. answer.Fd fd) ANSWER_FD (λ a. refl) (λ a p. p) n bytes x fits is read) (λ e.
    choose n ANSWER_COUNT _ _ x _ e (λ is read. variant1 answer_bytes IsAnswer u32_format (λ count. answer.Count count) ANSWER_COUNT (λ a. refl) (λ a p. p) n bytes x fits is read) (λ e.
    choose n ANSWER_PLACE _ _ x _ e (λ is read. variant1 answer_bytes IsAnswer u32_format (λ place. answer.Place place) ANSWER_PLACE (λ a. refl) (λ a p. p) n bytes x fits is read) (λ e.
    choose n ANSWER_BYTES _ _ x _ e (λ is read. variant1 answer_bytes IsAnswer text_format (λ bytes. answer.Bytes bytes) ANSWER_BYTES (λ a. refl) (λ a p. p) n bytes x fits is read) (λ e.
    choose n ANSWER_PAIR _ _ x _ e (λ is read. variant2 answer_bytes IsAnswer u32_format u32_format (λ reader writer. answer.Pair reader writer) ANSWER_PAIR (λ a b. refl) (λ a b p q. (p, q)) n bytes x fits is read) (λ e.
    choose n ANSWER_STAT _ _ x _ e (λ is read. variant1 answer_bytes IsAnswer stat_format (λ stat. answer.Stat stat) ANSWER_STAT (λ a. refl) (λ a p. p) n bytes x fits is read) (λ e.
    choose n ANSWER_NAMES _ _ x _ e (λ is read. variant1 answer_bytes IsAnswer names_format (λ names. answer.Names names) ANSWER_NAMES (λ a. refl) (λ a p. p) n bytes x fits is read) (λ e.
    choose n ANSWER_CHILD _ _ x _ e (λ is read. variant1 answer_bytes IsAnswer u32_format (λ pid. answer.Child pid) ANSWER_CHILD (λ a. refl) (λ a p. p) n bytes x fits is read) (λ e.
    absurd cc)))))))))

answer_again : (v : Answer) (rest : List ℕ) → IsAnswer v → answer_at (answer_bytes v ++ rest) ≡ Ok (v, rest)
unfolding answer_of answer_bytes IsAnswer
answer_again answer.Done rest fits = refl
answer_again (answer.Fd fd) rest fits = one_again u32_format (λ fd. answer.Fd fd) fd rest fits
answer_again (answer.Count count) rest fits = one_again u32_format (λ count. answer.Count count) count rest fits
answer_again (answer.Place place) rest fits = one_again u32_format (λ place. answer.Place place) place rest fits
answer_again (answer.Bytes bytes) rest fits = one_again text_format (λ bytes. answer.Bytes bytes) bytes rest fits
answer_again (answer.Pair reader writer) rest fits = two_again u32_format u32_format (λ reader writer. answer.Pair reader writer) reader writer rest fits.0 fits.1
answer_again (answer.Stat stat) rest fits = one_again stat_format (λ stat. answer.Stat stat) stat rest fits
answer_again (answer.Names names) rest fits = one_again names_format (λ names. answer.Names names) names rest fits
answer_again (answer.Child pid) rest fits = one_again u32_format (λ pid. answer.Child pid) pid rest fits

pub answer_format : IsFormat answer_bytes IsAnswer answer_at
answer_format = record { takes = numbered answer_bytes IsAnswer answer_of answer_takes; again = answer_again }

-- ---- replies

reply_takes : (n : ℕ) (bytes : List ℕ) (x : Reply × List ℕ) → IsBytes bytes → reply_of n bytes ≡ Ok x → Took reply_bytes IsReply n bytes x
unfolding reply_of reply_bytes IsReply
reply_takes n bytes x fits e =
    choose n REPLY_ANSWER _ _ x _ e (λ is read. variant1 reply_bytes IsReply answer_format (λ answer. reply.Answer answer) REPLY_ANSWER (λ a. refl) (λ a p. p) n bytes x fits is read) (λ e.
    choose n REPLY_ERRNO _ _ x _ e (λ is read. variant1 reply_bytes IsReply errno_format (λ errno. reply.Errno errno) REPLY_ERRNO (λ a. refl) (λ a p. tt) n bytes x fits is read) (λ e.
    choose n REPLY_BEGUN _ _ x _ e (λ is read. variant0 reply_bytes IsReply reply.Begun REPLY_BEGUN refl tt n bytes x fits is read) (λ e.
    choose n REPLY_COMMITTED _ _ x _ e (λ is read. variant0 reply_bytes IsReply reply.Committed REPLY_COMMITTED refl tt n bytes x fits is read) (λ e.
    choose n REPLY_GIVEN_UP _ _ x _ e (λ is read. variant1 reply_bytes IsReply flag_format (λ restarted. reply.GivenUp restarted) REPLY_GIVEN_UP (λ a. refl) (λ a p. tt) n bytes x fits is read) (λ e.
    choose n REPLY_ABORTED _ _ x _ e (λ is read. variant2 reply_bytes IsReply why_format flag_format (λ why restarted. reply.Aborted why restarted) REPLY_ABORTED (λ a b. refl) (λ a b p q. p) n bytes x fits is read) (λ e.
    choose n REPLY_BUSY _ _ x _ e (λ is read. variant1 reply_bytes IsReply cause_format (λ cause. reply.Busy cause) REPLY_BUSY (λ a. refl) (λ a p. p) n bytes x fits is read) (λ e.
    choose n REPLY_IN_TRANSACTION _ _ x _ e (λ is read. variant0 reply_bytes IsReply reply.InTransaction REPLY_IN_TRANSACTION refl tt n bytes x fits is read) (λ e.
    choose n REPLY_NOT_IN_TRANSACTION _ _ x _ e (λ is read. variant0 reply_bytes IsReply reply.NotInTransaction REPLY_NOT_IN_TRANSACTION refl tt n bytes x fits is read) (λ e.
    choose n REPLY_HISTORY_FULL _ _ x _ e (λ is read. variant0 reply_bytes IsReply reply.HistoryFull REPLY_HISTORY_FULL refl tt n bytes x fits is read) (λ e.
    choose n REPLY_NO_MEMORY _ _ x _ e (λ is read. variant0 reply_bytes IsReply reply.NoMemory REPLY_NO_MEMORY refl tt n bytes x fits is read) (λ e.
    choose n REPLY_NO_PROCESS _ _ x _ e (λ is read. variant0 reply_bytes IsReply reply.NoProcess REPLY_NO_PROCESS refl tt n bytes x fits is read) (λ e.
    absurd cc))))))))))))

reply_again : (v : Reply) (rest : List ℕ) → IsReply v → reply_at (reply_bytes v ++ rest) ≡ Ok (v, rest)
unfolding reply_of reply_bytes IsReply
reply_again (reply.Answer answer) rest fits = one_again answer_format (λ answer. reply.Answer answer) answer rest fits
reply_again (reply.Errno errno) rest fits = one_again errno_format (λ errno. reply.Errno errno) errno rest tt
reply_again reply.Begun rest fits = refl
reply_again reply.Committed rest fits = refl
reply_again (reply.GivenUp restarted) rest fits = one_again flag_format (λ restarted. reply.GivenUp restarted) restarted rest tt
reply_again (reply.Aborted why restarted) rest fits = two_again why_format flag_format (λ why restarted. reply.Aborted why restarted) why restarted rest fits tt
reply_again (reply.Busy cause) rest fits = one_again cause_format (λ cause. reply.Busy cause) cause rest fits
reply_again reply.InTransaction rest fits = refl
reply_again reply.NotInTransaction rest fits = refl
reply_again reply.HistoryFull rest fits = refl
reply_again reply.NoMemory rest fits = refl
reply_again reply.NoProcess rest fits = refl

pub reply_format : IsFormat reply_bytes IsReply reply_at
reply_format = record { takes = numbered reply_bytes IsReply reply_of reply_takes; again = reply_again }
