-- The texts only read, by computing what is read of each.
use Rattle.std.proofs.Common.{◌≡◌, true, refl, codes}
use Rattle.sqlite_tied.specs.Compute.{everything}
use Rattle.store_texts.specs.Queries.{only_reads}

pub table_reads : only_reads (codes "SELECT name FROM sqlite_schema WHERE type = 'table' AND name = ?1") ≡ true
unfolding everything only_reads
table_reads = refl

pub version_reads : only_reads (codes "SELECT version FROM format") ≡ true
unfolding everything only_reads
version_reads = refl

pub draft_reads : only_reads (codes "SELECT revision, report, export FROM drafts WHERE monday = ?1") ≡ true
unfolding everything only_reads
draft_reads = refl

pub drivers_reads : only_reads (codes "SELECT driver, seen_monday, seen_past, next_past FROM draft_drivers WHERE monday = ?1 ORDER BY place") ≡ true
unfolding everything only_reads
drivers_reads = refl

pub receipt_reads : only_reads (codes "SELECT receipt FROM issues ORDER BY receipt DESC LIMIT 1") ≡ true
unfolding everything only_reads
receipt_reads = refl

pub pasts_reads : only_reads (codes "SELECT rowid, past FROM histories") ≡ true
unfolding everything only_reads
pasts_reads = refl

pub seen_pasts_reads : only_reads (codes "SELECT rowid, seen_past FROM draft_drivers WHERE seen_past IS NOT NULL") ≡ true
unfolding everything only_reads
seen_pasts_reads = refl

pub next_pasts_reads : only_reads (codes "SELECT rowid, next_past FROM draft_drivers") ≡ true
unfolding everything only_reads
next_pasts_reads = refl
