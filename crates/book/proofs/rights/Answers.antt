-- `book::rights` meets its contract: each array is a column of the book's rows, and so are the contents' lists.
use Rattle.std.proofs.Common.{rules, ◌+◌}
use Rattle.layout.specs.Layout.{group, commands, entries, secret}
use Rattle.book.specs.Columns.{name_length}
use Rattle.book.proofs.RowLaws.{secret-short}
use Rattle.book.proofs.ContentLaws.{rights-columns}
use Rattle.book.proofs.rights.Goals as goal

pub returns : goal.returns
returns c =
    let b = c.args.book.now in
    let h = c.args.h in
    let m = c.args.m in
    rw (rights-columns b h m) (λ t. record {
      words = c.entry_rows.ensures.0 t;
      hosts = h;
      interfaces = m;
      groups = c.column.ensures (group b) (λ k r l p. search rules) t;
      sizes = c.column-2.ensures (name_length b) (λ k r l p. search rules) t;
      spans = c.column-3.ensures (name_length b) (λ k r l p. search rules) t;
      commands = c.column-4.ensures (commands b) (λ k r l p. search rules) t;
      entries = c.column-5.ensures (entries b) (λ k r l p. search rules) t;
      owners = c.entry_rows.ensures.1 t;
      secrets = c.put_strings.ensures (secret b) (λ k r l p. search rules) (λ k l. secret-short b (h + k)) t;
    })
