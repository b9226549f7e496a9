-- The book, the state and the listing: of each public function two outcomes that its contract allows are equal (as in `SettledGround`).
use mathlib.Core.Path.{◌≡◌}
use Rattle.layout.proofs as Layout
use Rattle.state.proofs as State
use Rattle.grammar.proofs as Grammar
use Rattle.grammar.proofs.FaultLaws.{fault_in-one}
use Rattle.book.proofs as Book
use Rattle.book.proofs.LoadLaws.{told-one}
use Rattle.listing.proofs as Listing
use Rattle.listing.proofs.RenderLaws.{rendered-one}
use Rattle.promises.specs.One.{Settles, SettlesResult, SettlesBoth}
use Rattle.promises.proofs.One.{one, both, read}

-- ---- layout

-- where the contract also says how large the number is, that isn't needed
pub format-settles : SettlesResult Layout.format.Reads.Learnt
format-settles κs a x y d e p q = one p.0 q.0

pub rows-settles : SettlesResult Layout.rows.Reads.Learnt
rows-settles κs a x y d e = one

pub total-settles : SettlesResult Layout.total.Reads.Learnt
total-settles κs a x y d e p q = one p.0 q.0

pub row-settles : SettlesResult Layout.row.Reads.Learnt
row-settles κs a x y d e = one

pub kind-settles : SettlesResult Layout.kind.Reads.Learnt
kind-settles κs a x y d e = one

pub kind-from-settles : SettlesResult Layout.kinds.KindFromU16.from.Reads.Learnt
kind-from-settles κs a x y d e = one

pub id-settles : SettlesResult Layout.id.Reads.Learnt
id-settles κs a x y d e p q = one p.0 q.0

pub start-settles : SettlesResult Layout.start.Reads.Learnt
start-settles κs a x y d e p q = one p.0 q.0

pub size-settles : SettlesResult Layout.size.Reads.Learnt
size-settles κs a x y d e p q = one p.0 q.0

pub commands-settles : SettlesResult Layout.commands.Reads.Learnt
commands-settles κs a x y d e = one

pub entries-settles : SettlesResult Layout.entries.Reads.Learnt
entries-settles κs a x y d e = one

pub group-settles : SettlesResult Layout.group.Reads.Learnt
group-settles κs a x y d e = one

pub owner-settles : SettlesResult Layout.owner.Reads.Learnt
owner-settles κs a x y d e = one

pub word-settles : SettlesResult Layout.word.Reads.Learnt
word-settles κs a x y d e = one

pub lead-settles : SettlesResult Layout.lead.Reads.Learnt
lead-settles κs a x y d e p q = one p.0 q.0

pub name-start-settles : SettlesResult Layout.name_start.Reads.Learnt
name-start-settles κs a x y d e p q = one p.0 q.0

-- of what is handed back, the bytes: where they stand is left open
pub name-settles : Settles Layout.name.Reads.Learnt (λ κs x y d e. x.now ≡ y.now)
name-settles κs a x y d e = one

pub secret-settles : Settles Layout.secret.Reads.Learnt (λ κs x y d e. x.now ≡ y.now)
secret-settles κs a x y d e = one

-- ---- state

pub record-close-settles : SettlesResult State.transitions.Record.close.Reads.Learnt
record-close-settles κs a x y d e = one

pub record-request-settles : SettlesResult State.transitions.Record.request.Reads.Learnt
record-request-settles κs a x y d e = one

pub record-proof-settles : SettlesResult State.transitions.Record.proof.Reads.Learnt
record-proof-settles κs a x y d e = one

pub record-accept-settles : SettlesResult State.transitions.Record.accept.Reads.Learnt
record-accept-settles κs a x y d e = one

pub record-reply-settles : SettlesResult State.transitions.Record.reply.Reads.Learnt
record-reply-settles κs a x y d e = one

pub record-at-settles : SettlesResult State.record_at.Reads.Learnt
record-at-settles κs a x y d e = one

pub with-record-settles : SettlesResult State.with_record.Reads.Learnt
with-record-settles κs a x y d e = one

pub with-word-settles : SettlesResult State.with_word.Reads.Learnt
with-word-settles κs a x y d e = one

pub no-rights-settles : SettlesResult State.no_rights.Reads.Learnt
no-rights-settles κs a x y d e = one

pub idle-records-settles : SettlesResult State.idle_records.Reads.Learnt
idle-records-settles κs a x y d e = one

pub sound-settles : SettlesResult State.sound.Reads.Learnt
sound-settles κs a x y d e = one

-- ---- grammar

pub judge-settles : SettlesResult Grammar.judge.Reads.Learnt
judge-settles κs a x y d e = read fault_in-one

-- ---- book

pub load-settles : SettlesResult Book.load.Reads.Learnt
load-settles κs a x y d e = read told-one

pub empty-state-settles : SettlesResult Book.empty_state.Reads.Learnt
empty-state-settles κs a x y d e = one

-- ---- listing

pub render-settles : SettlesBoth Listing.render.Reads.Learnt (λ κs d. d.1.1.1.0.now)
render-settles κs a x y d e p q = (rendered-one x y (one p.0 q.0) (one p.1 q.1), one p.2 q.2)

pub render-refused-settles : SettlesBoth Listing.render_refused.Reads.Learnt (λ κs d. d.1.1.0.now)
render-refused-settles κs a x y d e = both
