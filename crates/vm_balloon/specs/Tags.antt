-- The tags of the entries of a statistics buffer (OASIS VIRTIO 1.2, section 5.5.6.4).
use Rattle.std.specs.Prelude.{ℕ}

-- VIRTIO_BALLOON_S_SWAP_IN: bytes swapped in
abbrev pub swap_in_tag : ℕ
swap_in_tag = 0

-- VIRTIO_BALLOON_S_SWAP_OUT: bytes swapped out
abbrev pub swap_out_tag : ℕ
swap_out_tag = 1

-- VIRTIO_BALLOON_S_MAJFLT: page faults that read a page in
abbrev pub major_faults_tag : ℕ
major_faults_tag = 2

-- VIRTIO_BALLOON_S_MINFLT: page faults that read nothing in
abbrev pub minor_faults_tag : ℕ
minor_faults_tag = 3

-- VIRTIO_BALLOON_S_MEMFREE: bytes that nothing uses
abbrev pub free_tag : ℕ
free_tag = 4

-- VIRTIO_BALLOON_S_MEMTOT: bytes in all
abbrev pub total_tag : ℕ
total_tag = 5

-- VIRTIO_BALLOON_S_AVAIL: bytes that can be used without swapping
abbrev pub available_tag : ℕ
available_tag = 6
