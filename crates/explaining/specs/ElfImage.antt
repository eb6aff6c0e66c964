-- Whether an image is an ELF file in place of the raw bytes of a program.
use Rattle.std.specs.Prelude.{◌+◌, ◌&&◌, ◌==◌, if◌then◌else◌, Bool, List, ℕ, [], codes}
use Rattle.rvclass.specs.FetchedBytes.{half_at, has_bytes}
use Rattle.rvclass.specs.Memory.{base_of}
use Rattle.rvclass.specs.Image.{Image}

-- The image begins as an ELF file does: at the lowest address of a piece it has the four bytes 7f 45 4c 46, read as two
-- halfwords, little endian.
abbrev pub begins_as_elf : Image → Bool
begins_as_elf image =
    has_bytes image (base_of image) 4
    && (half_at image (base_of image) == 0x457f && half_at image (base_of image + 2) == 0x464c)

-- The line that says so, if the image begins as an ELF file does.
abbrev pub elf_line : Image → List ℕ
elf_line image =
    if begins_as_elf image
    then codes "  the image looks like an ELF file: give it the raw bytes (tools/image, or objcopy -O binary)\n" else []
