-- How long numbers and the bodies of replies are.
use Rattle.std.proofs.Common.{◌≡◌, ℕ, ◌+◌, ◌*◌, ◌<◌, ◌^◌, List, [], ◌∷◌, length, refl, arith, length-append}
use Rattle.std.specs.List.{flat_map}
use Rattle.byteorder.specs.Numbers.{length-bytes_low_first}
use Rattle.fuse.specs.declared.reply.Attr.{Attr}
use Rattle.fuse.specs.declared.reply.Entry.{Entry}
use Rattle.fuse.specs.declared.reply.Init.{Init}
use Rattle.fuse.specs.declared.reply.Opened.{Opened}
use Rattle.fuse.specs.declared.reply.Reply.{Reply}
use Rattle.fuse.specs.declared.reply.Reply.TheVariants as reply
use Rattle.fuse.specs.declared.reply.StatFs.{StatFs}
use Rattle.fuse.specs.Numbers.{u16_bytes, u16s, u32_bytes, u32s, u64_bytes, u64s}
use Rattle.fuse.specs.Replies.{IsShort, attr_bytes, attr_reply_bytes, body_of, entry_bytes, init_bytes, opened_bytes, statfs_bytes}

length-u16_bytes : (n : ℕ) → length (u16_bytes n) ≡ 2
unfolding u16_bytes
length-u16_bytes n = length-bytes_low_first 0 2 n

pub length-u32_bytes : (n : ℕ) → length (u32_bytes n) ≡ 4
unfolding u32_bytes
length-u32_bytes n = length-bytes_low_first 0 4 n

pub length-u64_bytes : (n : ℕ) → length (u64_bytes n) ≡ 8
unfolding u64_bytes
length-u64_bytes n = length-bytes_low_first 0 8 n

length-u16s : (ns : List ℕ) → length (u16s ns) ≡ 2 * length ns
unfolding u16s
length-u16s [] = refl
length-u16s (n ∷ ns) = omega (arith, length-append (u16_bytes n) (flat_map u16_bytes ns), length-u16_bytes n, length-u16s ns)

pub length-u32s : (ns : List ℕ) → length (u32s ns) ≡ 4 * length ns
unfolding u32s
length-u32s [] = refl
length-u32s (n ∷ ns) = omega (arith, length-append (u32_bytes n) (flat_map u32_bytes ns), length-u32_bytes n, length-u32s ns)

pub length-u64s : (ns : List ℕ) → length (u64s ns) ≡ 8 * length ns
unfolding u64s
length-u64s [] = refl
length-u64s (n ∷ ns) = omega (arith, length-append (u64_bytes n) (flat_map u64_bytes ns), length-u64_bytes n, length-u64s ns)

length-attr_bytes : (attr : Attr) → length (attr_bytes attr) ≡ 88
unfolding attr_bytes
length-attr_bytes attr = simp (length-append, length-u64s, length-u32s)

pub length-entry_bytes : (entry : Entry) → length (entry_bytes entry) ≡ 128
unfolding entry_bytes
length-entry_bytes entry = simp (length-append, length-u64s, length-u32s, length-attr_bytes)

pub length-attr_reply_bytes : (attr : Attr) → length (attr_reply_bytes attr) ≡ 104
unfolding attr_reply_bytes
length-attr_reply_bytes attr = simp (length-append, length-u64s, length-u32s, length-attr_bytes)

pub length-opened_bytes : (opened : Opened) → length (opened_bytes opened) ≡ 16
unfolding opened_bytes
length-opened_bytes opened = simp (length-append, length-u64s, length-u32s)

pub length-statfs_bytes : (s : StatFs) → length (statfs_bytes s) ≡ 80
unfolding statfs_bytes
length-statfs_bytes s = simp (length-append, length-u64s, length-u32s)

pub length-init_bytes : (init : Init) → length (init_bytes init) ≡ 64
unfolding init_bytes
length-init_bytes init = simp (length-append, length-u32s, length-u16s)

-- how many bytes stand behind the header of a reply
abbrev pub body_length : Reply → ℕ
body_length (reply.Error errno) = 0
body_length reply.Empty = 0
body_length (reply.Entry entry) = 128
body_length (reply.Attr attr) = 104
body_length (reply.Opened opened) = 16
body_length (reply.Created entry opened) = 144
body_length (reply.Written size) = 8
body_length (reply.Data bytes) = length bytes
body_length (reply.Directory listing) = length listing.bytes
body_length (reply.StatFs s) = 80
body_length (reply.Init init) = 64
body_length (reply.Lseek offset) = 8

pub length-body_of : (r : Reply) → length (body_of r) ≡ body_length r
length-body_of (reply.Error errno) = refl
length-body_of reply.Empty = refl
length-body_of (reply.Entry entry) = length-entry_bytes entry
length-body_of (reply.Attr attr) = length-attr_reply_bytes attr
length-body_of (reply.Opened opened) = length-opened_bytes opened
length-body_of (reply.Created entry opened) = omega (arith, length-append (entry_bytes entry) (opened_bytes opened), length-entry_bytes entry, length-opened_bytes opened)
length-body_of (reply.Written size) = length-u32s (size ∷ 0 ∷ [])
length-body_of (reply.Data bytes) = refl
length-body_of (reply.Directory listing) = refl
length-body_of (reply.StatFs s) = length-statfs_bytes s
length-body_of (reply.Init init) = length-init_bytes init
length-body_of (reply.Lseek offset) = length-u64s (offset ∷ [])

-- the length of a short reply can be told
pub short_body : (r : Reply) → IsShort r → length (body_of r) + 16 < 2 ^ 32
short_body (reply.Error errno) short = omega arith
short_body reply.Empty short = omega arith
short_body (reply.Entry entry) short = omega (arith, length-body_of (reply.Entry entry))
short_body (reply.Attr attr) short = omega (arith, length-body_of (reply.Attr attr))
short_body (reply.Opened opened) short = omega (arith, length-body_of (reply.Opened opened))
short_body (reply.Created entry opened) short = omega (arith, length-body_of (reply.Created entry opened))
short_body (reply.Written size) short = omega (arith, length-body_of (reply.Written size))
short_body (reply.Data bytes) short = short
short_body (reply.Directory listing) short = short
short_body (reply.StatFs s) short = omega (arith, length-body_of (reply.StatFs s))
short_body (reply.Init init) short = omega (arith, length-body_of (reply.Init init))
short_body (reply.Lseek offset) short = omega (arith, length-body_of (reply.Lseek offset))
